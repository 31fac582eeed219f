-- The number of a number's digits is the fewest that hold it, and there is only one such number. Assumes nothing.
use Prim.Native.Nat.{ℕ, zero, suc, ◌-◌, ◌*◌, ◌/◌, ◌^◌, ◌≤◌, ◌<◌}
use native.Mathlib.Nat.{pow-suc, pow-le-pow_right}
use native.Mathlib.Omega.{arith}
use mathlib.Core.Path.{◌≡◌, ap}
use lib.Dec.{ltb}
use borrow.Author.Tests.{ltb-true, ltb-false}
use Rattle.plain.proofs.Tests.{by_test}
use Rattle.io.specs.Digits.{last_digits, IsDigitCount}
use Rattle.decimal.specs.Decimal.{count, decimal}

-- of two fewest numbers of digits none is below the other
not_below : (n j k : ℕ) → IsDigitCount 10 1 n j → IsDigitCount 10 1 n k → j < k → ⊥
not_below n j k a b h =
    let p : 10 ^ (k - 1) ≤ n = b.2 (omega (arith, a.0)) in
    let q : 10 ^ j ≤ 10 ^ (k - 1) = pow-le-pow_right {n = 10} (omega arith) (omega arith) in
    omega (arith, a.1)

-- so there is only one
one_fewest : (n j k : ℕ) → IsDigitCount 10 1 n j → IsDigitCount 10 1 n k → j ≡ k
one_fewest n j k a b =
    by_test (ltb j k)
    (λ y. absurd (not_below n j k a b (ltb-true j k y)))
    (λ f. by_test (ltb k j)
    (λ y. absurd (not_below n k j b a (ltb-true k j y)))
    (λ g. omega (arith, ltb-false j k f, ltb-false k j g)))

-- one digit holds what is below ten
pub small : (n : ℕ) → n < 10 → IsDigitCount 10 1 n 1
small n h = (omega arith, h, λ z. absurd (omega arith))

-- the last place of a number of two digits or more
more_than_ten : (n k : ℕ) → 1 < k → 10 ^ (k - 1) ≤ n / 10 → 10 ^ (suc k - 1) ≤ n
more_than_ten n k h e =
    let m : suc k - 1 ≡ suc (k - 1) = omega arith in
    let p : 10 ^ suc (k - 1) ≡ 10 ^ (k - 1) * 10 = pow-suc 10 (k - 1) in
    rw (m, p) (omega arith)

-- and a digit more holds ten times as much
pub larger : (n k : ℕ) → 10 ≤ n → IsDigitCount 10 1 (n / 10) k → IsDigitCount 10 1 n (suc k)
larger n k h e =
    let p : 10 ^ suc k ≡ 10 ^ k * 10 = pow-suc 10 k in (
      omega arith,
      omega (arith, e.1),
      λ z. by_test (ltb 1 k)
          (λ y. more_than_ten n k (ltb-true 1 k y) (e.2 (ltb-true 1 k y)))
          (λ f. let m : k ≡ 1 = omega (arith, ltb-false 1 k f, e.0) in rw m h),
    )

-- counting by division gives the fewest
pub count_fewest : (most n : ℕ) → n ≤ most → IsDigitCount 10 1 n (count most n)
unfolding count
count_fewest zero n h = small n (omega arith)
count_fewest (suc most) n h =
    by_test (ltb n 10)
    (λ y. rw y (small n (ltb-true n 10 y)))
    (λ f. rw f (larger n (count most (n / 10)) (ltb-false n 10 f) (count_fewest most (n / 10) (omega (arith, ltb-false n 10 f)))))

-- the fewest digits that hold n are its decimal text
pub is_decimal : (n k : ℕ) → IsDigitCount 10 1 n k → last_digits 10 k n ≡ decimal n
unfolding decimal
is_decimal n k h = ap (λ (j : ℕ). last_digits 10 j n) (one_fewest n k (count n n) h (count_fewest n n (omega arith)))

-- a word of 64 bits has at most 20 digits
pub at_most_twenty : (n k : ℕ) → n < 2 ^ 64 → IsDigitCount 10 1 n k → k ≤ 20
at_most_twenty n k h e =
    by_test (ltb 20 k)
    (λ y.
    let m : 20 < k = ltb-true 20 k y in
    let p : 10 ^ (k - 1) ≤ n = e.2 (omega arith) in
    let q : 10 ^ 20 ≤ 10 ^ (k - 1) = pow-le-pow_right {n = 10} (omega arith) {i = 20} {j = k - 1} (omega arith) in
    omega arith)
    (λ f. ltb-false 20 k f)
