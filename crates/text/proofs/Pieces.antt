-- What stands at a place of a text: a word, a name, a number, a line, and that it is the only one. Assumes nothing.
use Prim.Native.Nat.{ℕ, zero, suc, ◌+◌, ◌≤◌}
use native.Mathlib.Omega.{arith}
use mathlib.Core.Path.{◌≡◌, refl, sym, ap, ◌∙◌}
use mathlib.Core.Bool.{true, false, cond}
use mathlib.Core.List.{List, [], ◌∷◌, ◌++◌, append_assoc}
use lib.Dec.{eqb, ltb}
use lib.ListN.{length, get_or, drop, length-append, length-drop}
use lib.Seq.{drop-append_seam}
use borrow.Author.Tests.{ltb-true, ltb-false}
use Rattle.plain.specs.Ops as P
use Rattle.plain.specs.Record.{uses_second, names}
use Rattle.plain.proofs.Tests.{by_test, no}
use Rattle.decimal.specs.Decimal.{Digit, decimal, blanked, NumberAt}
use Rattle.decimal.proofs.Runs.{same_number}
use Rattle.cells.specs.declared.Op.{Op}
use Rattle.cells.specs.Ops.{OpOk}
use Rattle.cells.proofs.Ops.{facts}
use Rattle.text.specs.Text.{blank, newline, line_with, head_line, code_line, op_line}
use Rattle.text.specs.Pieces.{line_of, NameAt, second_before, SecondAt, NoOpLine}
use Rattle.text.proofs.Forms.{one_blanked, none_blanked, seconds, code_line_lem}

-- A WORD WITH A BLANK BEHIND IT
pub room : (text word rest : List ℕ) (at : ℕ) → drop at text ≡ word ++ (blank ∷ rest) → at + length word + 1 ≤ length text
room text word rest at e = omega (arith, length-drop at text, ap length e, length-append word (blank ∷ rest))

-- A NAME
by_four : (X : ℕ → Type 0) → X 1 → X 2 → X 3 → X 4 → (c : ℕ) → 1 ≤ c → c ≤ 4 → X c
by_four X x y z w zero l m = absurd (omega arith)
by_four X x y z w (suc zero) l m = x
by_four X x y z w (suc (suc zero)) l m = y
by_four X x y z w (suc (suc (suc zero))) l m = z
by_four X x y z w (suc (suc (suc (suc zero)))) l m = w
by_four X x y z w (suc (suc (suc (suc (suc c))))) l m = absurd (omega arith)

-- the code of a name's first letter
abbrev code_of : ℕ → ℕ
code_of x = cond (eqb x 112) 1 (cond (eqb x 97) 2 (cond (eqb x 110) 3 4))

first_letter : (c : ℕ) → 1 ≤ c → c ≤ 4 → (t : List ℕ) → code_of (get_or (get_or names c [] ++ t) 0 0) ≡ c
first_letter = by_four (λ c. (t : List ℕ) → code_of (get_or (get_or names c [] ++ t) 0 0) ≡ c) (λ t. refl) (λ t. refl) (λ t. refl) (λ t. refl)

cancel : (a b c : List ℕ) → a ++ b ≡ a ++ c → b ≡ c
cancel a b c e = sym (drop-append_seam a b) ∙ ap (drop (length a)) e ∙ drop-append_seam a c

pub same_name : (c d : ℕ) (r s : List ℕ) → 1 ≤ c → c ≤ 4 → 1 ≤ d → d ≤ 4 → get_or names c [] ++ (blank ∷ r) ≡ get_or names d [] ++ (blank ∷ s)
    → (c ≡ d) × (r ≡ s)
same_name c d r s h i j k e =
    let q : c ≡ d =
    sym (first_letter c h i (blank ∷ r)) ∙ ap (λ (t : List ℕ). code_of (get_or t 0 0)) e ∙ first_letter d j k (blank ∷ s) in
    let f : get_or names d [] ++ (blank ∷ r) ≡ get_or names d [] ++ (blank ∷ s) = rw (← q) (rw (← q) at e) in
    let g : blank ∷ r ≡ blank ∷ s = cancel (get_or names d []) (blank ∷ r) (blank ∷ s) f in
    (q, (cc))

-- A NUMBER
pub blank_splits : Digit blank → ⊥
blank_splits d = omega (arith, d.0)

pub newline_splits : Digit newline → ⊥
newline_splits d = omega (arith, d.0)

pub number_is : (t more rest : List ℕ) (stop most v n : ℕ) → (Digit stop → ⊥) → NumberAt t stop most v rest → t ≡ decimal n ++ (stop ∷ more)
    → (v ≡ n) × (rest ≡ more)
number_is t more rest stop most v n s a e =
    let i = same_number v n stop stop rest more s s (sym a.stands ∙ e) in (i.0, i.2)

-- A SECOND CELL
pub second_is : (t more rest : List ℕ) (code v j : ℕ) → SecondAt t code v rest → (get_or uses_second code false ≡ false → j ≡ 0)
    → t ≡ second_before code j more → (v ≡ j) × (rest ≡ more)
second_is t more rest code v j a z e =
    by_test (get_or uses_second code false)
    (λ u.
    let i = same_number v j blank blank rest more blank_splits blank_splits (sym (rw u at a.stands) ∙ (rw u at e)) in
    (i.0, i.2))
    (λ f. (a.unused f ∙ sym (z f), sym (rw f at a.stands) ∙ (rw f at e)))

-- THE LINE OF AN OPERATION, before what follows it
pub line_before : (code k j a : ℕ) (more : List ℕ) → code_line code k j a ++ more
    ≡ get_or names code [] ++ (blank ∷ (decimal k ++ (blank ∷ second_before code j (decimal a ++ (newline ∷ more)))))
line_before code k j a more =
    ap (λ (t : List ℕ). t ++ more) (code_line_lem code k j a)
    ∙ regroup (get_or names code []) (blanked (k ∷ [])) (blanked (seconds code j)) (blanked (a ∷ [])) (newline ∷ []) more
    ∙ by_test (get_or uses_second code false)
    (λ t. rw (t, one_blanked k, one_blanked j, one_blanked a))
    (λ f. rw (f, one_blanked k, none_blanked, one_blanked a))
  where
    regroup : (n k j a e more : List ℕ) → (n ++ (k ++ (j ++ (a ++ e)))) ++ more ≡ n ++ (k ++ (j ++ (a ++ (e ++ more))))
    regroup n k j a e more = simp append_assoc

-- what stands behind the name of an operation's line
abbrev pub behind_name : Op → List ℕ → List ℕ
behind_name p more = decimal p.cell ++ (blank ∷ second_before p.code p.second (decimal p.amount ++ (newline ∷ more)))

pub name_is : (l rest more : List ℕ) (code : ℕ) (p : Op) → NameAt l code rest → OpOk p → l ≡ line_of p ++ more
    → (code ≡ p.code) × (rest ≡ behind_name p more)
name_is l rest more code p a ok e =
    let f = facts ok in
    same_name code p.code rest (behind_name p more) a.known.0 a.known.1 f.known.0 f.known.1
    (sym a.stands ∙ e ∙ line_before p.code p.cell p.second p.amount more)

-- an operation's second cell is zero where its code uses none, and it fits a byte
pub no_second : (p : Op) → OpOk p → get_or uses_second p.code false ≡ false → p.second ≡ 0
no_second p ok e =
    let f = facts ok in
    by_test (ltb p.code 4)
    (λ y. f.zero (ltb-true _ _ y))
    (λ n. let q : p.code ≡ 4 = omega (arith, ltb-false p.code 4 n) in no _ (rw q) e)

pub second_small : (p : Op) → OpOk p → p.second ≤ 255
second_small p ok =
    let f = facts ok in
    by_test (ltb p.code 4)
    (λ y. omega (arith, f.zero (ltb-true _ _ y)))
    (λ n. omega (arith, (f.second (omega (arith, ltb-false p.code 4 n))).0))

-- THE FIRST LINE, before what follows it
pub head_before : (id class : ℕ) (more : List ℕ) → head_line id class ++ more ≡ decimal id ++ (blank ∷ (decimal class ++ (newline ∷ more)))
unfolding line_with
head_before id class more = rw (one_blanked class) (simp append_assoc)

-- the struct of an operation
abbrev pub struct_of : P.Op → Op
struct_of (P.put k a) = record { code = 1; cell = k; second = 0; amount = a }
struct_of (P.add k a) = record { code = 2; cell = k; second = 0; amount = a }
struct_of (P.need k a) = record { code = 3; cell = k; second = 0; amount = a }
struct_of (P.move k j a) = record { code = 4; cell = k; second = j; amount = a }

pub struct_ok : (o : P.Op) → P.op_ok o ≡ true → OpOk (struct_of o)
struct_ok (P.put k a) h = record { coded = refl; valid = h }
struct_ok (P.add k a) h = record { coded = refl; valid = h }
struct_ok (P.need k a) h = record { coded = refl; valid = h }
struct_ok (P.move k j a) h = record { coded = refl; valid = h }

pub struct_line : (o : P.Op) → line_of (struct_of o) ≡ op_line o
struct_line (P.put k a) = refl
struct_line (P.add k a) = refl
struct_line (P.need k a) = refl
struct_line (P.move k j a) = refl

-- where no struct's line stands, no operation's does
pub no_op_line : (l : List ℕ) → NoOpLine l → (p : P.Op) (more : List ℕ) → P.op_ok p ≡ true → l ≡ op_line p ++ more → ⊥
no_op_line l none p more ok e = none (struct_of p) more (struct_ok p ok) (e ∙ ap (λ (t : List ℕ). t ++ more) (sym (struct_line p)))
