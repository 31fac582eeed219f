-- The pair walk's laws: f gives the number in each of n places. Assumes nothing.
use mathlib.Core.Path.{◌≡◌}
use Prim.Native.Nat.{ℕ, ◌+◌, ◌<◌, ◌≤◌}
use native.Mathlib.Omega.{arith}
use borrow.Author.Count.{below_more}
use Rattle.store.specs.Sound.{Apart}

-- the number in place a stands in no place after a and before j; and so for each place before i
abbrev pub Clear : (ℕ → ℕ) → ℕ → ℕ → Type 0
Clear f a j = (b : ℕ) → b < j → a < b → f a ≡ f b → f a ≡ 0

abbrev pub Passed : (ℕ → ℕ) → ℕ → ℕ → Type 0
Passed f n i = (a : ℕ) → a < i → Clear f a n

module _ (f : ℕ → ℕ) where
  pub in_more : (i j : ℕ) → Clear f i j → (f i ≡ f j → f i ≡ 0) → Clear f i (j + 1)
  in_more i j h e = below_more (λ b. i < b → f i ≡ f b → f i ≡ 0) j h (λ _. e)

  pub out_more : (n i j : ℕ) → Passed f n i → n ≤ j → Clear f i j → Passed f n (i + 1)
  out_more n i j p g h = below_more (λ a. Clear f a n) i p (λ b l. h b (omega arith))

  pub all_passed : (n i : ℕ) → Passed f n i → n ≤ i → Apart n f
  all_passed n i p g a b l h e = p a (omega arith) b h l e
