-- A number as decimal text, and what reading one comes to. Assumes nothing.
use Rattle.std.specs.Prelude.{ℕ, zero, suc, ◌+◌, ◌/◌, ◌≤◌, ◌≡◌, cond, List, [], ◌∷◌, ◌++◌, ltb, length, Option, Some, None, IfSome, IfNone}
use Rattle.io.specs.Digits.{last_digits}
use Rattle.decimal.specs.declared.Number.{Number}

-- how many decimal digits n has: one, and one more for each division by ten that leaves something; n divisions are enough
unfoldable pub count : ℕ → ℕ → ℕ
count zero n = 1
count (suc most) n = cond (ltb n 10) 1 (suc (count most (n / 10)))

-- a number's decimal digits in ASCII, with no zero in front
unfoldable pub decimal : ℕ → List ℕ
decimal n = last_digits 10 (count n n) n

-- each number with a blank before it
unfoldable pub blanked : List ℕ → List ℕ
blanked [] = []
blanked (n ∷ ns) = (32 ∷ decimal n) ++ blanked ns

-- a digit, in ASCII
abbrev pub Digit : ℕ → Type 0
Digit d = (48 ≤ d) × (d ≤ 57)

-- READING: at the start of a text stand a number up to `most` and the byte that stops it; `rest` is what stands behind
pub record NumberAt (text : List ℕ) (stop most value : ℕ) (rest : List ℕ) : Type 0 where
  pub small : value ≤ most
  pub stands : text ≡ decimal value ++ (stop ∷ rest)

-- or no such number
abbrev pub NoNumber : (stop most : ℕ) → List ℕ → Type 0
NoNumber stop most text = (n : ℕ) (more : List ℕ) → n ≤ most → text ≡ decimal n ++ (stop ∷ more) → ⊥

-- where reading goes on, if it began at `at`: behind the number that it found
abbrev pub goes_on_at : (at : ℕ) → Option Number → ℕ
goes_on_at at None = at
goes_on_at at (Some n) = n.next

-- and where it ends: past the byte that stops the number; where there is none, where it began
pub record EndsAt (at : ℕ) (found : Option Number) : Type 0 where
  pub past : IfSome found (λ n. n.next ≡ at + length (decimal n.value) + 1)
  pub stays : IfNone found (goes_on_at at found ≡ at)
