-- The lowest number that passes a test, and sums. Assumes nothing.
use Prim.Native.Nat.{ℕ, zero, suc, ◌+◌, ◌*◌, ◌<◌, ◌≤◌}
use native.Mathlib.Omega.{arith}
use mathlib.Core.Path.{◌≡◌, refl, sym, ap, ◌∙◌}
use mathlib.Core.Bool.{Bool, true, false, cond}
use lib.Dec.{eqb}
use borrow.Author.Tests.{eqb-true, eqb-false, ne_eqb}
use Rattle.plain.specs.Site.{lowest, sum}
use Rattle.plain.proofs.Tests.{by_test}

-- the lowest that passes a test
pub lowest_passes : (p : ℕ → Bool) (from count : ℕ) → lowest p from count < from + count → p (lowest p from count) ≡ true
lowest_passes p from zero l = absurd (omega arith)
lowest_passes p from (suc count) l =
    by_test (p from)
    (λ t. rw (t, t))
    (λ f. rw f (lowest_passes p (suc from) count (go f)))
  where
    go : p from ≡ false → lowest p (suc from) count < suc from + count
    go f = let h : lowest p (suc from) count < from + suc count = rw f at l in omega arith

pub lowest_is : (p : ℕ → Bool) (from count c : ℕ) → from ≤ c → c < from + count → p c ≡ true → ((d : ℕ) → d < from + count → p d ≡ true → d ≡ c) → lowest p from count ≡ c
lowest_is p from zero c l m t u = absurd (omega arith)
lowest_is p from (suc count) c l m t u =
    by_test (p from)
    (λ y. rw y (u from (omega arith) y))
    (λ f. rw f (lowest_is p (suc from) count c (more f) (omega arith) t (λ d n. u d (omega arith))))
  where
    more : p from ≡ false → suc from ≤ c
    more f = by_test (eqb from c)
        (λ y. let e : from ≡ c = eqb-true from c y in let z : true ≡ false = sym t ∙ ap p (sym e) ∙ f in let o : ◌≡◌ {A = ℕ} 0 1 = cc in absurd (omega arith))
        (λ y. let ne : from ≡ c → ⊥ = eqb-false from c y in omega arith)

pub lowest_from : (p : ℕ → Bool) (from count : ℕ) → from ≤ lowest p from count
lowest_from p from zero = omega arith
lowest_from p from (suc count) =
    by_test (p from) (λ t. rw t (omega arith)) (λ f. rw f (omega (arith, lowest_from p (suc from) count)))

pub lowest_le : (p : ℕ → Bool) (from count : ℕ) → lowest p from count ≤ from + count
lowest_le p from zero = omega arith
lowest_le p from (suc count) =
    let r = lowest_le p (suc from) count in by_test (p from) (λ t. rw t (omega arith)) (λ f. rw f (omega arith))

-- none below it passes, and none at all where there is none
pub lowest_below : (p : ℕ → Bool) (from count i : ℕ) → from ≤ i → i < lowest p from count → p i ≡ false
lowest_below p from zero i l m = absurd (omega arith)
lowest_below p from (suc count) i l m =
    by_test (p from)
    (λ t. let k : i < from = rw t at m in absurd (omega arith))
    (λ f. let k : i < lowest p (suc from) count = rw f at m in
    by_test (eqb from i)
    (λ y. rw (← eqb-true from i y) f)
    (λ y. let ne : from ≡ i → ⊥ = eqb-false from i y in lowest_below p (suc from) count i (omega arith) k))

pub lowest_none : (p : ℕ → Bool) (from count : ℕ) → from + count ≤ lowest p from count → (i : ℕ) → from ≤ i → i < from + count → p i ≡ false
lowest_none p from count h i l m = lowest_below p from count i l (omega arith)

pub sum_add : (f g : ℕ → ℕ) (n : ℕ) → sum (λ i. f i + g i) n ≡ sum f n + sum g n
unfolding sum
sum_add f g zero = refl
sum_add f g (suc n) = let h = sum_add f g n in omega arith

pub sum_zero : (n : ℕ) → sum (λ i. 0) n ≡ 0
unfolding sum
sum_zero zero = refl
sum_zero (suc n) = let h = sum_zero n in omega arith

pub sum_same : (f g : ℕ → ℕ) (n : ℕ) → ((i : ℕ) → i < n → f i ≡ g i) → sum f n ≡ sum g n
unfolding sum
sum_same f g zero h = refl
sum_same f g (suc n) h = let r = sum_same f g n (λ i l. h i (omega arith)) in omega (arith, h n (omega arith))

pub sum_le : (f g : ℕ → ℕ) (n : ℕ) → ((i : ℕ) → i < n → f i ≤ g i) → sum f n ≤ sum g n
unfolding sum
sum_le f g zero h = omega arith
sum_le f g (suc n) h = let r = sum_le f g n (λ i l. h i (omega arith)) in omega (arith, h n (omega arith))

pub sum_const : (k n : ℕ) → sum (λ i. k) n ≡ n * k
unfolding sum
sum_const k zero = omega arith
sum_const k (suc n) = let r = sum_const k n in omega arith

-- one number below n is counted once
sum_none : (k n : ℕ) → n ≤ k → sum (λ i. cond (eqb k i) 1 0) n ≡ 0
unfolding sum
sum_none k zero l = refl
sum_none k (suc n) l = let r = sum_none k n (omega arith) in rw (ne_eqb k n (λ e. omega arith)) (omega arith)

pub sum_one : (k n : ℕ) → k < n → sum (λ i. cond (eqb k i) 1 0) n ≡ 1
unfolding sum
sum_one k zero l = absurd (omega arith)
sum_one k (suc n) l =
    by_test (eqb k n)
    (λ t. let e = eqb-true k n t in let r = sum_none k n (omega arith) in rw t (omega arith))
    (λ f. let e : k ≡ n → ⊥ = eqb-false k n f in let r = sum_one k n (omega arith) in rw f (omega arith))

pub exchange : (f : ℕ → ℕ → ℕ) (n m : ℕ) → sum (λ i. sum (λ c. f i c) m) n ≡ sum (λ c. sum (λ i. f i c) n) m
unfolding sum
exchange f n zero = sum_zero n
exchange f n (suc m) = let r = exchange f n m in sum_add (λ i. sum (λ c. f i c) m) (λ i. f i m) n ∙ rw r

pub sum_term : (f : ℕ → ℕ) (n c : ℕ) → c < n → f c ≤ sum f n
unfolding sum
sum_term f zero c l = absurd (omega arith)
sum_term f (suc n) c l =
    by_test (eqb c n)
    (λ t. let e = eqb-true c n t in rw e (omega arith))
    (λ g. let ne : c ≡ n → ⊥ = eqb-false c n g in let r = sum_term f n c (omega arith) in omega arith)

-- a sum of which one term changes
pub sum_change : (f g : ℕ → ℕ) (n c : ℕ) → c < n → ((d : ℕ) → (d ≡ c → ⊥) → g d ≡ f d) → sum g n + f c ≡ sum f n + g c
unfolding sum
sum_change f g zero c l e = absurd (omega arith)
sum_change f g (suc n) c l e =
    by_test (eqb c n)
    (λ t. let p : c ≡ n = eqb-true c n t in
    let q : sum g n ≡ sum f n = sum_same g f n (λ d m. e d (λ h. absurd (omega arith))) in
    rw (p, q) (omega arith))
    (λ t. let ne : c ≡ n → ⊥ = eqb-false c n t in
    let q : g n ≡ f n = e n (λ h. ne (sym h)) in
    let r = sum_change f g n c (omega arith) e in omega arith)

-- two terms of a sum
pub sum_pair : (f : ℕ → ℕ) (n c d : ℕ) → c < d → d < n → f c + f d ≤ sum f n
unfolding sum
sum_pair f zero c d l m = absurd (omega arith)
sum_pair f (suc n) c d l m =
    by_test (eqb d n)
    (λ t. let e = eqb-true d n t in let r = sum_term f n c (omega arith) in rw e (omega arith))
    (λ g. let ne : d ≡ n → ⊥ = eqb-false d n g in let r = sum_pair f n c d l (omega arith) in omega arith)

-- a sum of nothing, a sum of which one term alone counts, and a sum from its other end
pub sum_nothing : (f : ℕ → ℕ) (n : ℕ) → ((d : ℕ) → d < n → f d ≡ 0) → sum f n ≡ 0
sum_nothing f n e = sum_same f (λ d. 0) n e ∙ sum_zero n

pub sum_single : (f : ℕ → ℕ) (n c : ℕ) → c < n → ((d : ℕ) → (d ≡ c → ⊥) → f d ≡ 0) → sum f n ≡ f c
sum_single f n c l e = omega (arith, sum_change (λ d. 0) f n c l e, sum_zero n)

pub sum_front : (f : ℕ → ℕ) (n : ℕ) → sum f (suc n) ≡ f 0 + sum (λ d. f (suc d)) n
unfolding sum
sum_front f zero = omega arith
sum_front f (suc n) = omega (arith, sum_front f n)

-- of terms that are 0 or 1, no two of them 1, the sum is at most 1
pub sum_apart : (f : ℕ → ℕ) (n : ℕ) → ((i : ℕ) → f i ≤ 1) → ((i j : ℕ) → i < j → j < n → f i ≡ 1 → f j ≡ 1 → ⊥) → sum f n ≤ 1
unfolding sum
sum_apart f zero u h = omega arith
sum_apart f (suc n) u h =
    let r = sum_apart f n u (λ i j l m. h i j l (omega arith)) in
    by_test (eqb (f n) 0)
    (λ t. let e = eqb-true (f n) 0 t in omega arith)
    (λ g. let ne : f n ≡ 0 → ⊥ = eqb-false (f n) 0 g in
    let one : f n ≡ 1 = omega (arith, u n) in
    let z = sum_nothing f n (λ i l. by_test (eqb (f i) 0)
    (λ t. eqb-true (f i) 0 t)
    (λ k. let nk : f i ≡ 0 → ⊥ = eqb-false (f i) 0 k in absurd (h i n l (omega arith) (omega (arith, u i)) one))) in
    omega arith)

-- where none of them passes, the lowest is the one past them; and it is at most any that passes
pub lowest_past : (p : ℕ → Bool) (from n : ℕ) → ((d : ℕ) → d < from + n → p d ≡ false) → lowest p from n ≡ from + n
lowest_past p from zero e = omega arith
lowest_past p from (suc n) e = rw (e from (omega arith)) (omega (arith, lowest_past p (suc from) n (λ d l. e d (omega arith))))
