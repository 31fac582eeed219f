-- Tests that decide: how a test that is true exactly where a rule holds is made of smaller ones. Assumes nothing.
use Prim.Native.Nat.{ℕ, zero, suc, ◌+◌, ◌<◌, ◌≤◌}
use native.Mathlib.Omega.{arith}
use mathlib.Core.Path.{◌≡◌, refl}
use mathlib.Core.Bool.{Bool, true, false, not, ◌&&◌}
use mathlib.Core.List.{List, [], ◌∷◌}
use lib.Dec.{ltb, leb, eqb}
use lib.Pointwise.{pointwise, pointwise_decides}
use borrow.Author.Count.{below_more}
use borrow.Author.Tests.{lt-ltb, le-leb, eqb-true, eqb-false, eq-eqb, leb-true, ltb-true, not-true, not-false}
use Rattle.plain.specs.Sound.{All}
use Rattle.plain.specs.Decides.{Decides}
use Rattle.plain.proofs.Tests.{by_test, no}

-- from both directions, and back
pub decided : {b : Bool} {P : Type 0} → (b ≡ true → P) → (P → b ≡ true) → Decides b P
decided to from = record { yes = to; no = λ f p. no _ (from p) f }

pub holds : {b : Bool} {P : Type 0} → Decides b P → P → b ≡ true
holds {b} d p = by_test b (λ t. t) (λ f. absurd (d.no f p))

pub decides_true : {P : Type 0} → P → Decides true P
decides_true p = decided (λ e. p) (λ p. refl)

pub decides_false : {P : Type 0} → (P → ⊥) → Decides false P
decides_false n = record { yes = λ e. no _ e refl; no = λ e p. n p }

-- the same rule in other words
pub decides_as : {b : Bool} {P Q : Type 0} → (P → Q) → (Q → P) → Decides b P → Decides b Q
decides_as to from d = record { yes = λ e. to (d.yes e); no = λ f q. d.no f (from q) }

-- numbers
pub decides_eq : (a b : ℕ) → Decides (eqb a b) (a ≡ b)
decides_eq a b = decided (eqb-true a b) (eq-eqb a b)

pub decides_ne : (a b : ℕ) → Decides (not (eqb a b)) (a ≡ b → ⊥)
decides_ne a b = record { yes = λ e. eqb-false a b (not-true (eqb a b) e); no = λ f n. n (eqb-true a b (not-false (eqb a b) f)) }

pub decides_lt : (a b : ℕ) → Decides (ltb a b) (a < b)
decides_lt a b = decided (ltb-true a b) (lt-ltb a b)

pub decides_le : (a b : ℕ) → Decides (leb a b) (a ≤ b)
decides_le a b = decided (leb-true a b) (le-leb a b)

-- tests of tests
pub decides_both : {a b : Bool} {P Q : Type 0} → Decides a P → Decides b Q → Decides (a && b) (P × Q)
decides_both {a} {b} {P} {Q} p q = decided (go a p) (λ h. rw (holds p h.0) (holds q h.1))
  where
    go : (a : Bool) → Decides a P → (a && b) ≡ true → P × Q
    go true p e = (p.yes refl, q.yes e)
    go false p e = no _ e refl

-- lists
abbrev pub all_test : {A : Type 0} → (A → Bool) → List A → Bool
all_test p [] = true
all_test p (x ∷ l) = p x && all_test p l

pub decides_all : {A : Type 0} (p : A → Bool) (P : A → Type 0) → ((x : A) → Decides (p x) (P x)) → (l : List A) → Decides (all_test p l) (All P l)
decides_all p P t [] = decides_true tt
decides_all p P t (x ∷ l) = decides_both (t x) (decides_all p P t l)

abbrev pub same_test : List ℕ → List ℕ → Bool
same_test [] [] = true
same_test [] (y ∷ m) = false
same_test (x ∷ l) [] = false
same_test (x ∷ l) (y ∷ m) = eqb x y && same_test l m

pub decides_same : (l m : List ℕ) → Decides (same_test l m) (l ≡ m)
decides_same [] [] = decides_true refl
decides_same [] (y ∷ m) = decides_false (λ h. let z : ◌≡◌ {A = ℕ} 0 1 = cc in omega arith)
decides_same (x ∷ l) [] = decides_false (λ h. let z : ◌≡◌ {A = ℕ} 0 1 = cc in omega arith)
decides_same (x ∷ l) (y ∷ m) =
    decides_as (λ h. rw (h.0, h.1)) (λ h. ((cc), (cc))) (decides_both (decides_eq x y) (decides_same l m))

-- element by element, as `==` of two slices looks at them
pub decides_pointwise : {A : Type 0} {E : A → A → Bool} → ((x y : A) → Decides (E x y) (x ≡ y)) → (l m : List A) → Decides (pointwise E l m) (l ≡ m)
decides_pointwise {A} {E} d l m =
    let both = pointwise_decides {K = A} {E = E} (λ x y. ((d x y).yes, holds (d x y))) l m in
    decided both.0 both.1

-- every number below n
abbrev pub below_test : (ℕ → Bool) → ℕ → Bool
below_test p zero = true
below_test p (suc n) = below_test p n && p n

pub decides_below : (p : ℕ → Bool) (P : ℕ → Type 0) → ((i : ℕ) → Decides (p i) (P i)) → (n : ℕ) → Decides (below_test p n) ((i : ℕ) → i < n → P i)
decides_below p P t zero = decides_true (λ i l. absurd (omega arith))
decides_below p P t (suc n) =
    decides_as
    (λ h i l. by_test (eqb i n)
    (λ y. rw (eqb-true i n y) h.1)
    (λ f. let ne : i ≡ n → ⊥ = eqb-false i n f in h.0 i (omega arith)))
    (λ h. ((λ i l. h i (omega arith)), h n (omega arith)))
    (decides_both (decides_below p P t n) (t n))

-- of the numbers below i, and of i
pub decides_more : {a b : Bool} (P : ℕ → Type 0) (i : ℕ) → Decides a ((k : ℕ) → k < i → P k) → Decides b (P i)
    → Decides (a && b) ((k : ℕ) → k < i + 1 → P k)
decides_more P i d e =
    decides_as (λ h. below_more P i h.0 h.1) (λ h. ((λ k l. h k (omega arith)), h i (omega arith))) (decides_both d e)
