-- Masks of 16 classes as digits: the class that is asked for, and one more or less. Assumes nothing.
use Prim.Native.Nat.{ℕ, zero, suc, ◌/◌, ◌%◌, ◌^◌, ◌<◌}
use native.Mathlib.Omega.{arith}
use mathlib.Core.Path.{◌≡◌, refl, sym, ap, ◌∙◌}
use mathlib.Core.Bool.{Bool, true, false}
use mathlib.Core.List.{List, ◌∷◌}
use lib.Dec.{eqb}
use lib.ListN.{get_or, set}
use lib.Seq.{get_or-set_same, get_or-set_other}
use Rattle.plain.specs.Site.{bits, named}
use Rattle.usedmap.specs.Flags.{bits_of}
use Rattle.usedmap.proofs.Bits.{bits_length, bits_get}
use Rattle.queries.specs.Table.{Grown, Shrunk}

bits_same : (k n : ℕ) → bits k n ≡ bits_of k n
unfolding bits bits_of
bits_same zero n = refl
bits_same (suc k) n = ap (λ (l : List Bool). eqb (n % 2) 1 ∷ l) (bits_same k (n / 2))

pub named_digit : (m c : ℕ) → c < 16 → named m c ≡ eqb (m / 2 ^ c % 2) 1
unfolding named
named_digit m c l = ap (λ (l : List Bool). get_or l c false) (bits_same 16 m) ∙ bits_get 16 m c l

-- a class that a mask names, among the digits of a longer word
pub named_is : (m c : ℕ) → c < 16 → named m c ≡ get_or (bits_of 64 m) c false
named_is m c l = named_digit m c l ∙ sym (bits_get 64 m c (omega arith))

module _ (m c n : ℕ) (l : c < 16) (b : Bool) (e : bits_of 64 n ≡ set (bits_of 64 m) c b) where
  own : named n c ≡ b
  own =
      named_is n c l ∙ ap (λ (l : List Bool). get_or l c false) e
      ∙ get_or-set_same (bits_of 64 m) c b false (omega (arith, bits_length 64 m))

  others : (d : ℕ) → d < 16 → (d ≡ c → ⊥) → named n d ≡ named m d
  others d k ne =
      named_is n d k ∙ ap (λ (l : List Bool). get_or l d false) e ∙ get_or-set_other (bits_of 64 m) c d b false ne ∙ sym (named_is m d k)

pub grown : (m c n : ℕ) → c < 16 → bits_of 64 n ≡ set (bits_of 64 m) c true → Grown m c n
grown m c n l e = record { own = own m c n l true e; others = others m c n l true e }

pub shrunk : (m c n : ℕ) → c < 16 → bits_of 64 n ≡ set (bits_of 64 m) c false → Shrunk m c n
shrunk m c n l e = record { own = own m c n l false e; others = others m c n l false e }
