-- Piece after piece is the only one that can stand there, so where a piece is missing no line stands there. Assumes nothing.
use Rattle.std.proofs.Common.{◌≡◌, ℕ, List, [], ◌∷◌, ◌++◌, get_or, sym, ap, subst, ◌∙◌, arith}
use Rattle.plain.specs.Record.{names}
use Rattle.decimal.specs.Decimal.{decimal, NumberAt}
use Rattle.cells.specs.declared.Op.{Op}
use Rattle.cells.specs.Ops.{OpOk}
use Rattle.cells.proofs.Ops.{facts}
use Rattle.text.specs.Text.{blank, newline}
use Rattle.text.specs.Pieces.{line_of, NameAt, second_before, SecondAt, OpLineAt}
use Rattle.text.proofs.Pieces.{blank_splits, newline_splits, number_is, second_is, line_before, behind_name, name_is, no_second, second_small}
use Rattle.text.proofs.opline.op_at.Goals as goal

-- piece after piece: what is read so far is that of the line, and so is what is left
module _ (l : List ℕ) (code : ℕ) (named : List ℕ) (name : NameAt l code named) (p : Op) (more : List ℕ) (ok : OpOk p) (e : l ≡ line_of p ++ more) where
  at_name : (code ≡ p.code) × (named ≡ behind_name p more)
  at_name = name_is l named more code p name ok e

  module _ (v : ℕ) (celled : List ℕ) (cell : NumberAt named blank 255 v celled) where
    at_cell : (v ≡ p.cell) × (celled ≡ second_before p.code p.second (decimal p.amount ++ (newline ∷ more)))
    at_cell = number_is named _ celled blank 255 v p.cell blank_splits cell at_name.1

    at_cell_here : celled ≡ second_before code p.second (decimal p.amount ++ (newline ∷ more))
    at_cell_here = rw at_name.0 at_cell.1

    module _ (w : ℕ) (seconded : List ℕ) (second : SecondAt celled code w seconded) where
      at_second : (w ≡ p.second) × (seconded ≡ decimal p.amount ++ (newline ∷ more))
      at_second = second_is celled _ seconded code w p.second second (λ u. no_second p ok (rw at_name.0 at u)) at_cell_here

      -- all of it is that of the line
      same_op : (a : ℕ) (rest : List ℕ) → NumberAt seconded newline 4294967295 a rest → OpOk (record { code = code; cell = v; second = w; amount = a })
      same_op a rest amount =
          let k : a ≡ p.amount = (number_is seconded more rest newline 4294967295 a p.amount newline_splits amount at_second.1).0 in
          let s : ◌≡◌ {A = Op} (record { code = code; cell = v; second = w; amount = a }) p =
          (λ i. record { code = at_name.0 i; cell = at_cell.0 i; second = at_second.0 i; amount = k i }) in
          subst OpOk (sym s) ok

-- the line stands there
line_there : (l named celled seconded rest : List ℕ) (o : Op) → OpOk o → NameAt l o.code named → NumberAt named blank 255 o.cell celled
    → SecondAt celled o.code o.second seconded → NumberAt seconded newline 4294967295 o.amount rest → OpLineAt l o rest
line_there l named celled seconded rest o ok name cell second amount =
    record {
      rules = ok;
      stands =
          name.stands
          ∙ ap (λ (t : List ℕ). get_or names o.code [] ++ (blank ∷ t)) (cell.stands
          ∙ ap (λ (t : List ℕ). decimal o.cell ++ (blank ∷ t)) (second.stands
          ∙ ap (second_before o.code o.second) amount.stands))
          ∙ sym (line_before o.code o.cell o.second o.amount rest);
    }

pub returns-in_err-named-clause-op_line_at : goal.returns-in_err-named-clause-op_line_at
returns-in_err-named-clause-op_line_at c =
    rw c.from_residual.ensures (λ p more ok e.
    let f = facts ok in
    c.in_err-named.ensures.name_at p.code _ f.known.0 f.known.1 (e ∙ line_before p.code p.cell p.second p.amount more))

pub returns-in_err-cell-clause-op_line_at : goal.returns-in_err-cell-clause-op_line_at
returns-in_err-cell-clause-op_line_at c =
    rw c.from_residual-in_err-cell.ensures (λ p more ok e.
    let f = facts ok in
    c.in_err-cell.ensures.number_at p.cell _ (omega arith) (at_name _ _ _ c.in_ok-named.ensures.name_at p more ok e).1)

pub returns-in_err-second-clause-op_line_at : goal.returns-in_err-second-clause-op_line_at
returns-in_err-second-clause-op_line_at c =
    rw c.from_residual-in_err-second.ensures (λ p more ok e.
    c.in_err-second.ensures.second_at p.second _ (second_small p ok)
    (at_cell_here _ _ _ c.in_ok-named.ensures.name_at p more ok e _ _ c.in_ok-cell.ensures.number_at))

pub returns-in_err-amount-clause-op_line_at : goal.returns-in_err-amount-clause-op_line_at
returns-in_err-amount-clause-op_line_at c =
    rw c.from_residual-in_err-amount.ensures (λ p more ok e.
    let f = facts ok in
    c.in_err-amount.ensures.number_at p.amount _ (omega arith)
    (at_second _ _ _ c.in_ok-named.ensures.name_at p more ok e _ _ c.in_ok-cell.ensures.number_at _ _ c.in_ok-second.ensures.second_at).1)

pub returns-then-not-op_ok-clause-op_line_at : goal.returns-then-not-op_ok-clause-op_line_at
returns-then-not-op_ok-clause-op_line_at c = λ p more ok e.
    c.op_ok.ensures.no c.if-not-op_ok.true
    (rw c.from.ensures
    (same_op _ _ _ c.in_ok-named.ensures.name_at p more ok e _ _ c.in_ok-cell.ensures.number_at _ _ c.in_ok-second.ensures.second_at _ _ c.in_ok-amount.ensures.number_at))

pub returns-clause-op_line_at : goal.returns-clause-op_line_at
returns-clause-op_line_at c =
    rw c.from.ensures
    (line_there _ _ _ _ _ _ (rw c.from.ensures at (c.op_ok.ensures.yes c.if-not-op_ok.false)) c.in_ok-named.ensures.name_at c.in_ok-cell.ensures.number_at c.in_ok-second.ensures.second_at
    c.in_ok-amount.ensures.number_at)
