-- Masks of classes: a mask of 16 bits is known by the classes that it names, and one that names none is 0. Assumes nothing.
use Prim.Native.Nat.{ℕ, zero, suc, ◌/◌, ◌%◌, ◌^◌, ◌<◌}
use native.Mathlib.Omega.{arith}
use mathlib.Core.Path.{◌≡◌, refl, sym, ap, ◌∙◌}
use mathlib.Core.Logic.{◌⊎◌, inl, inr}
use mathlib.Core.Bool.{Bool, true, false}
use mathlib.Core.List.{List, ◌∷◌}
use lib.Dec.{eqb, ltb}
use lib.ListN.{get_or}
use lib.Seq.{ext_get_or}
use borrow.Author.Tests.{ltb-true, ltb-false}
use Rattle.plain.specs.Site.{lowest, bits, named}
use Rattle.plain.proofs.Tests.{by_test}
use Rattle.plain.proofs.Sums.{lowest_passes, lowest_none}
use Rattle.usedmap.specs.Flags.{bits_of}
use Rattle.usedmap.proofs.Bits.{bits_length, bits_inj}

bits_same : (k n : ℕ) → bits k n ≡ bits_of k n
unfolding bits bits_of
bits_same zero n = refl
bits_same (suc k) n = ap (λ (l : List Bool). eqb (n % 2) 1 ∷ l) (bits_same k (n / 2))

pub mask_inj : (m n : ℕ) → m < 2 ^ 16 → n < 2 ^ 16 → ((c : ℕ) → c < 16 → named m c ≡ named n c) → m ≡ n
unfolding named
mask_inj m n l k h =
    bits_inj 16 m n l k
    (ext_get_or false (bits_of 16 m) (bits_of 16 n) (bits_length 16 m ∙ sym (bits_length 16 n))
    (λ c g. ap (λ (b : List Bool). get_or b c false) (sym (bits_same 16 m)) ∙ h c (omega (arith, bits_length 16 m)) ∙ ap (λ (b : List Bool). get_or b c false) (bits_same 16 n)))

pub none_named : (c : ℕ) → named 0 c ≡ false
unfolding named bits
none_named c = go 16 c
  where
    go : (k c : ℕ) → get_or (bits k 0) c false ≡ false
    go zero c = refl
    go (suc k) zero = refl
    go (suc k) (suc c) = go k c

-- a mask is 0 or names a class
pub some_named : (m : ℕ) → m < 2 ^ 16 → (m ≡ 0) ⊎ ((c : ℕ) × (c < 16) × (named m c ≡ true))
some_named m l =
    by_test (ltb (lowest (named m) 0 16) 16)
    (λ t. let k = ltb-true _ 16 t in inr (lowest (named m) 0 16, k, lowest_passes (named m) 0 16 k))
    (λ f. inl (mask_inj m 0 l (omega arith) (λ c k. lowest_none (named m) 0 16 (ltb-false _ 16 f) c (omega arith) k ∙ sym (none_named c))))
