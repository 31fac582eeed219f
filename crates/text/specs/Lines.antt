-- The lines of a text, and the first at which no valid text agrees with it. Assumes nothing.
use Rattle.std.specs.Prelude.{ℕ, zero, suc, ◌-◌, ◌<◌, ◌≡◌, true, cond, List, [], ◌∷◌, eqb}
use Rattle.plain.specs.Ops.{Request, valid}
use Rattle.text.specs.Text.{newline, text_of}

-- the first line with its newline, which the last line of a text may lack, and what stands behind it
abbrev pub first_line : List ℕ → List ℕ
first_line [] = []
first_line (x ∷ t) = x ∷ cond (eqb x newline) [] (first_line t)

abbrev pub after_line : List ℕ → List ℕ
after_line [] = []
after_line (x ∷ t) = cond (eqb x newline) t (after_line t)

-- the line behind k others; past the end it is empty
abbrev pub line_behind : ℕ → List ℕ → List ℕ
line_behind zero t = first_line t
line_behind (suc k) t = line_behind k (after_line t)

-- two texts agree up to line n: their first n lines are equal
abbrev pub Agree : ℕ → List ℕ → List ℕ → Type 0
Agree n t u = (k : ℕ) → k < n → line_behind k t ≡ line_behind k u

-- THE FIRST BAD LINE, from 1: some valid text agrees with t up to the line before it, and none up to it
pub record FirstBad (t : List ℕ) (n : ℕ) : Type 0 where
  pub request : Request
  pub is_valid : valid request ≡ true
  pub before : Agree (n - 1) t (text_of request)
  pub none : (r : Request) → valid r ≡ true → Agree n t (text_of r) → ⊥
