-- The lines of a text taken apart: name, numbers and newline, how long they are, and that they are those of the operation that a struct
-- holds. Assumes nothing.
use Prim.Native.Nat.{ℕ, zero, suc, ◌+◌, ◌^◌, ◌<◌, ◌≤◌}
use native.Mathlib.Omega.{arith}
use native.Mathlib.Numerals.{add-one}
use mathlib.Core.Path.{◌≡◌, refl, sym, ap, ◌∙◌}
use mathlib.Core.Bool.{false, cond}
use mathlib.Core.List.{List, [], ◌∷◌, ◌++◌, append_assoc, append-nil, map}
use lib.Dec.{ltb}
use lib.ListN.{length, get_or, take}
use lib.Seq.{take-suc}
use borrow.Author.Tests.{ltb-true, ltb-false}
use Rattle.plain.specs.Record.{uses_second, names}
use Rattle.plain.proofs.Tests.{by_test}
use Rattle.decimal.specs.Decimal.{decimal, blanked}
use Rattle.decimal.proofs.Runs.{at_most}
use Rattle.cells.specs.declared.Op.{Op}
use Rattle.cells.specs.Ops.{op_of, OpOk}
use Rattle.cells.proofs.Ops.{facts, by_code}
use Rattle.text.specs.Text.{blank, newline, line_with, code_line, joined, op_line, op_lines, head_line}
use Rattle.text.specs.Pieces.{line_of}

-- A NUMBER WITH ITS BLANK
pub one_blanked : (n : ℕ) → blanked (n ∷ []) ≡ blank ∷ decimal n
unfolding blanked
one_blanked n = append-nil (blank ∷ decimal n)

pub none_blanked : blanked [] ≡ []
unfolding blanked
none_blanked = refl

pub more_blanked : (n : ℕ) (ns : List ℕ) → blanked (n ∷ ns) ≡ blanked (n ∷ []) ++ blanked ns
unfolding blanked
more_blanked n ns = ap (λ (t : List ℕ). t ++ blanked ns) (sym (append-nil (blank ∷ decimal n)))

pub blanked_short : (n k : ℕ) → 0 < k → n < 10 ^ k → length (blanked (n ∷ [])) ≤ suc k
blanked_short n k h l = rw (one_blanked n) (omega (arith, at_most n k h l))

-- the second cell of a code
abbrev pub seconds : ℕ → ℕ → List ℕ
seconds code j = cond (get_or uses_second code false) (j ∷ []) []

pub seconds_short : (code j : ℕ) → j < 100 → length (blanked (seconds code j)) ≤ 3
seconds_short code j h =
    by_test (get_or uses_second code false)
    (λ t. rw t (blanked_short j 2 (omega arith) (omega arith)))
    (λ f. rw (f, none_blanked) (omega arith))

pub name_short : (code : ℕ) → length (get_or names code []) ≤ 4
name_short zero = omega arith
name_short (suc zero) = omega arith
name_short (suc (suc zero)) = omega arith
name_short (suc (suc (suc zero))) = omega arith
name_short (suc (suc (suc (suc zero)))) = omega arith
name_short (suc (suc (suc (suc (suc code))))) = omega arith

-- A LINE BY ITS PIECES
pub code_line_lem : (code k j a : ℕ) → code_line code k j a
    ≡ get_or names code [] ++ (blanked (k ∷ []) ++ (blanked (seconds code j) ++ (blanked (a ∷ []) ++ (newline ∷ []))))
unfolding line_with
code_line_lem code k j a =
    by_test (get_or uses_second code false)
    (λ t. rw (t, more_blanked k (j ∷ a ∷ []), more_blanked j (a ∷ [])) (simp append_assoc))
    (λ f. rw (f, more_blanked k (a ∷ []), none_blanked) (simp append_assoc))

-- as an operation's struct holds it
pub same_line : (o : Op) → OpOk o → line_of o ≡ op_line (op_of o)
same_line o h =
    let f = facts h in
    by_code (λ p. line_of o ≡ op_line p) o f.known.0 f.known.1
    (λ e. rw e) (λ e. rw e) (λ e. rw e) (λ e. rw e)

pub pieces : (o : Op) → OpOk o → (code : ℕ) → code ≡ o.code
    → (((get_or names code [] ++ blanked (o.cell ∷ [])) ++ blanked (seconds code o.second)) ++ blanked (o.amount ∷ [])) ++ (newline ∷ [])
    ≡ op_line (op_of o)
pieces o h code e = rw e (simp append_assoc (sym (code_line_lem o.code o.cell o.second o.amount) ∙ same_line o h))

-- the pieces of a line of an operation that keeps its rules are short
pub record Short (o : Op) : Type 0 where
  pub name : (code : ℕ) → length (get_or names code []) ≤ 4
  pub cell : length (blanked (o.cell ∷ [])) ≤ 3
  pub second : length (blanked (o.second ∷ [])) ≤ 3
  pub seconds : (code : ℕ) → length (blanked (seconds code o.second)) ≤ 3
  pub amount : length (blanked (o.amount ∷ [])) ≤ 11

pub short : (o : Op) → OpOk o → Short o
short o h =
    let f = facts h in
    let j : o.second < 100 = by_test (ltb o.code 4)
    (λ y. omega (arith, f.zero (ltb-true _ _ y)))
    (λ n. omega (arith, (f.second (omega (arith, ltb-false o.code 4 n))).0)) in
    record {
      name = name_short;
      cell = blanked_short o.cell 2 (omega arith) (omega arith);
      second = blanked_short o.second 2 (omega arith) (omega arith);
      seconds = λ code. seconds_short code o.second j;
      amount = blanked_short o.amount 10 (omega arith) (omega arith);
    }

-- PUT ONE BEHIND ANOTHER
pub then_put : (a b c x y : List ℕ) → b ≡ a ++ x → c ≡ b ++ y → c ≡ a ++ (x ++ y)
then_put a b c x y e f = f ∙ ap (λ (t : List ℕ). t ++ y) e ∙ append_assoc a x y

pub head_pieces : (id class : ℕ) → (decimal id ++ blanked (class ∷ [])) ++ (newline ∷ []) ≡ head_line id class
unfolding line_with
head_pieces id class = append_assoc (decimal id) (blanked (class ∷ [])) (newline ∷ [])

-- one more of a list
module _ {A : Type 0} (text : A → List ℕ) where
  pub joined_more : (l : List A) (x : A) → joined text (l ++ (x ∷ [])) ≡ joined text l ++ text x
  joined_more [] x = append-nil (text x)
  joined_more (y ∷ l) x = ap (λ (t : List ℕ). text y ++ t) (joined_more l x) ∙ sym (append_assoc (text y) (joined text l) (text x))

  pub next_put : (a b head : List ℕ) (l : List A) (k : ℕ) (d : A) → k < length l → a ≡ head ++ joined text (take k l)
      → b ≡ a ++ text (get_or l k d) → b ≡ head ++ joined text (take (k + 1) l)
  next_put a b head l k d h e f =
      let m : joined text (take (k + 1) l) ≡ joined text (take k l) ++ text (get_or l k d) =
      rw (add-one, take-suc l k d h) (joined_more (take k l) (get_or l k d)) in
      then_put head a b (joined text (take k l)) (text (get_or l k d)) e f ∙ ap (λ (t : List ℕ). head ++ t) (sym m)

-- the lines of what a slot's operations mean
abbrev pub meant_line : Op → List ℕ
meant_line o = op_line (op_of o)

pub meant_lines : (os : List Op) → joined meant_line os ≡ op_lines (map op_of os)
meant_lines [] = refl
meant_lines (o ∷ os) = ap (λ (t : List ℕ). meant_line o ++ t) (meant_lines os)
