-- The map's agreement with the slots, flag by flag. Assumes nothing.
use mathlib.Core.Path.{◌≡◌, refl, sym, ap, ◌∙◌}
use mathlib.Core.Bool.{Bool, true, false, beq}
use mathlib.Core.List.{List, map}
use Prim.Native.Nat.{ℕ, ◌<◌}
use lib.ListN.{length, get_or, get_or-map, length-map}
use lib.Seq.{ext_get_or}
use Rattle.plain.specs.Decides.{Decides}
use Rattle.plain.proofs.Tests.{no}
use Rattle.plain.proofs.Deciding.{decides_true, decides_false}
use Rattle.slots.specs.Meaning.{is_used, no_slot}
use Rattle.slots.specs.declared.Slot.{Slot}
use Rattle.usedmap.proofs.Flags.{used_length}
use Rattle.usedmap.specs.Flags.{used_of}

-- a comparison of two flags
pub decides_flags : (a b : Bool) → Decides (beq a b) (a ≡ b)
decides_flags true true = decides_true refl
decides_flags true false = decides_false (λ e. no _ refl e)
decides_flags false true = decides_false (λ e. no _ e refl)
decides_flags false false = decides_true refl

module _ (lo hi : ℕ) (slots : List Slot) where
  -- flag by flag
  pub agree_at : used_of lo hi ≡ map is_used slots → (k : ℕ) → get_or (used_of lo hi) k false ≡ is_used (get_or slots k no_slot)
  agree_at e k = ap (λ (l : List Bool). get_or l k false) e ∙ get_or-map is_used slots k no_slot

  pub agree_all : length slots ≡ 128 → ((k : ℕ) → k < 128 → get_or (used_of lo hi) k false ≡ is_used (get_or slots k no_slot)) → used_of lo hi ≡ map is_used slots
  agree_all n h =
      ext_get_or false (used_of lo hi) (map is_used slots) (used_length lo hi ∙ sym (length-map slots is_used ∙ n))
      (λ k l. h k (rw used_length at l) ∙ sym (get_or-map is_used slots k no_slot))
