-- Piece after piece is the only one that can stand there. Assumes nothing.
use Rattle.std.proofs.Common.{◌≡◌, ℕ, ◌<◌, List, ◌∷◌, ◌++◌, sym, ap, ◌∙◌, arith}
use Rattle.decimal.specs.Decimal.{decimal, NumberAt}
use Rattle.text.specs.Text.{blank, newline, head_line}
use Rattle.text.specs.Pieces.{HeadAt}
use Rattle.text.proofs.Pieces.{blank_splits, number_is, head_before}
use Rattle.text.proofs.parse.head_at.Goals as goal

-- behind the id of a first line its class stands
at_id : (t behind : List ℕ) (v : ℕ) → NumberAt t blank 4294967295 v behind → (i c : ℕ) (more : List ℕ) → t ≡ head_line i c ++ more
    → (v ≡ i) × (behind ≡ decimal c ++ (newline ∷ more))
at_id t behind v id i c more e = number_is t _ behind blank 4294967295 v i blank_splits id (e ∙ head_before i c more)

-- the first line stands there
head_there : (t behind rest : List ℕ) (i c : ℕ) → 0 < i → NumberAt t blank 4294967295 i behind → NumberAt behind newline 15 c rest → HeadAt t i c rest
head_there t behind rest i c h id class =
    record {
      rules = record { id_not_zero = h; id_fits = omega (arith, id.small); class_fits = omega (arith, class.small) };
      stands = id.stands ∙ ap (λ (x : List ℕ). decimal i ++ (blank ∷ x)) class.stands ∙ sym (head_before i c rest);
    }

pub returns-in_err-id-clause-head_at : goal.returns-in_err-id-clause-head_at
returns-in_err-id-clause-head_at c =
    rw c.from_residual.ensures (λ i k more h e. c.in_err-id.ensures.number_at i _ (omega (arith, h.id_fits)) (e ∙ head_before i k more))

pub returns-then-id-eq0-clause-head_at : goal.returns-then-id-eq0-clause-head_at
returns-then-id-eq0-clause-head_at c = λ i k more h e.
    let q = (at_id _ _ _ c.in_ok-id.ensures.number_at i k more e).0 in omega (arith, h.id_not_zero, q, c.if-id-eq0.true)

pub returns-in_err-class-clause-head_at : goal.returns-in_err-class-clause-head_at
returns-in_err-class-clause-head_at c =
    rw c.from_residual-in_err-class.ensures (λ i k more h e.
    let q = (at_id _ _ _ c.in_ok-id.ensures.number_at i k more e).1 in c.in_err-class.ensures.number_at k _ (omega (arith, h.class_fits)) q)

pub returns-clause-head_at : goal.returns-clause-head_at
returns-clause-head_at c = head_there _ _ _ _ _ (omega (arith, c.if-id-eq0.false)) c.in_ok-id.ensures.number_at c.in_ok-class.ensures.number_at
