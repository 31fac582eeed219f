-- A text is the text of one request only, and no text of a valid request has more than 168 bytes. Assumes nothing.
use Prim.Native.Nat.{ℕ, ◌*◌, ◌≤◌}
use native.Mathlib.Omega.{arith}
use mathlib.Core.Path.{◌≡◌, refl, sym, ap, ◌∙◌}
use mathlib.Core.Bool.{true, false}
use mathlib.Core.List.{List, [], ◌∷◌, ◌++◌, map}
use lib.ListN.{length, get_or, length-append}
use Rattle.plain.specs.Ops.{Op, put, add, need, move, Request, op_ok, valid}
use Rattle.plain.specs.Record.{uses_second, names}
use Rattle.plain.specs.Sound.{All}
use Rattle.plain.proofs.Tests.{by_test, no}
use Rattle.plain.proofs.Items.{is_valid}
use Rattle.decimal.specs.Decimal.{decimal, blanked}
use Rattle.decimal.proofs.Runs.{same_number, at_most}
use Rattle.cells.specs.Ops.{op_of}
use Rattle.text.specs.Text.{blank, newline, op_line, op_lines, head_line, text_of}
use Rattle.text.specs.Pieces.{second_before}
use Rattle.text.proofs.Forms.{seconds, code_line_lem, head_pieces, blanked_short, short}
use Rattle.text.proofs.Pieces.{struct_of, struct_ok, struct_line, same_name, blank_splits, newline_splits, line_before, behind_name, head_before}
use Rattle.text.proofs.Standing.{line_long, op_line_lem, head_rules}

-- what the struct of an operation has
known : (o : Op) → (1 ≤ (struct_of o).code) × ((struct_of o).code ≤ 4)
known (put k a) = (omega arith, omega arith)
known (add k a) = (omega arith, omega arith)
known (need k a) = (omega arith, omega arith)
known (move k j a) = (omega arith, omega arith)

unused : (o : Op) → get_or uses_second (struct_of o).code false ≡ false → (struct_of o).second ≡ 0
unused (put k a) e = refl
unused (add k a) e = refl
unused (need k a) e = refl
unused (move k j a) e = no _ refl e

back : (o : Op) → op_of (struct_of o) ≡ o
back (put k a) = refl
back (add k a) = refl
back (need k a) = refl
back (move k j a) = refl

-- a second cell is told by what stands there
same_second : (code i j : ℕ) (r s : List ℕ) → (get_or uses_second code false ≡ false → (i ≡ 0) × (j ≡ 0)) → second_before code i r ≡ second_before code j s
    → (i ≡ j) × (r ≡ s)
same_second code i j r s z e =
    by_test (get_or uses_second code false)
    (λ t. let q = same_number i j blank blank r s blank_splits blank_splits (rw t at e) in (q.0, q.2))
    (λ f. let q = z f in (q.0 ∙ sym q.1, rw f at e))

-- and so are an operation and what follows its line
same_op : (o p : Op) (r s : List ℕ) → op_line o ++ r ≡ op_line p ++ s → (o ≡ p) × (r ≡ s)
same_op o p r s e =
    let a = struct_of o in
    let b = struct_of p in
    let before : (q : Op) (t : List ℕ) → op_line q ++ t ≡ get_or names (struct_of q).code [] ++ (blank ∷ behind_name (struct_of q) t) =
    λ q t. ap (λ (x : List ℕ). x ++ t) (sym (struct_line q))
    ∙ line_before (struct_of q).code (struct_of q).cell (struct_of q).second (struct_of q).amount t in
    let name =
    same_name a.code b.code (behind_name a r) (behind_name b s) (known o).0 (known o).1 (known p).0 (known p).1
    (sym (before o r) ∙ e ∙ before p s) in
    let cell = same_number a.cell b.cell blank blank _ _ blank_splits blank_splits name.1 in
    let second =
    same_second a.code a.second b.second (decimal a.amount ++ (newline ∷ r)) (decimal b.amount ++ (newline ∷ s))
    (λ f. (unused o f, unused p (rw name.0 at f)))
    (cell.2 ∙ ap (λ (c : ℕ). second_before c b.second (decimal b.amount ++ (newline ∷ s))) (sym name.0)) in
    let amount = same_number a.amount b.amount newline newline r s newline_splits newline_splits second.1 in
    let same : a ≡ b = λ i. record { code = name.0 i; cell = cell.0 i; second = second.0 i; amount = amount.0 i } in
    (sym (back o) ∙ ap op_of same ∙ back p, amount.2)

same_ops : (os ps : List Op) → op_lines os ≡ op_lines ps → os ≡ ps
same_ops [] [] e = refl
same_ops [] (p ∷ ps) e = absurd (omega (arith, ap length e, length-append (op_line p) (op_lines ps), line_long (op_line p) (op_line_lem p)))
same_ops (o ∷ os) [] e = absurd (omega (arith, ap length e, length-append (op_line o) (op_lines os), line_long (op_line o) (op_line_lem o)))
same_ops (o ∷ os) (p ∷ ps) e =
    let q = same_op o p (op_lines os) (op_lines ps) e in
    let first : o ≡ p = q.0 in
    let rest : os ≡ ps = same_ops os ps q.1 in
    cc

pub one_request : (r s : Request) → text_of r ≡ text_of s → r ≡ s
unfolding text_of
one_request r s e =
    let id =
    same_number r.id s.id blank blank _ _ blank_splits blank_splits
    (sym (head_before r.id r.class (op_lines r.ops)) ∙ e ∙ head_before s.id s.class (op_lines s.ops)) in
    let class = same_number r.class s.class newline newline _ _ newline_splits newline_splits id.2 in
    let ops = same_ops r.ops s.ops class.2 in
    λ i. record { id = id.0 i; class = class.0 i; ops = ops i }

-- HOW LONG
op_short : (o : Op) → op_ok o ≡ true → length (op_line o) ≤ 22
op_short o h =
    let a = struct_of o in
    let s = short a (struct_ok o h) in
    let name = get_or names a.code [] in
    let cell = blanked (a.cell ∷ []) in
    let second = blanked (seconds a.code a.second) in
    let amount = blanked (a.amount ∷ []) in
    omega (
      arith,
      ap length (sym (struct_line o) ∙ code_line_lem a.code a.cell a.second a.amount),
      length-append name (cell ++ (second ++ (amount ++ (newline ∷ [])))),
      length-append cell (second ++ (amount ++ (newline ∷ []))),
      length-append second (amount ++ (newline ∷ [])),
      length-append amount (newline ∷ []),
      s.name a.code,
      s.cell,
      s.seconds a.code,
      s.amount,
    )

ops_short : (os : List Op) → All (λ b. b ≡ true) (map op_ok os) → length (op_lines os) ≤ 22 * length os
ops_short [] h = omega arith
ops_short (o ∷ os) h = omega (arith, length-append (op_line o) (op_lines os), op_short o h.0, ops_short os h.1)

pub at_most_168 : (r : Request) → valid r ≡ true → length (text_of r) ≤ 168
unfolding text_of
at_most_168 r v =
    let w = is_valid r v in
    let h = head_rules r v in
    let id = decimal r.id in
    let class = blanked (r.class ∷ []) in
    omega (
      arith,
      length-append (head_line r.id r.class) (op_lines r.ops),
      ap length (sym (head_pieces r.id r.class)),
      length-append (id ++ class) (newline ∷ []),
      length-append id class,
      at_most r.id 10 (omega arith) (omega (arith, h.id_fits)),
      blanked_short r.class 2 (omega arith) (omega (arith, h.class_fits)),
      ops_short r.ops w.ops,
      w.few_ops,
    )
