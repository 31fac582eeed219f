use Prim.Native.Nat.{ℕ, ◌-◌, ◌<◌, ◌≤◌}
use mathlib.Core.Path.{◌≡◌}
use Rattle.slots.specs.Meaning.{slot_at}
use Rattle.site.proofs.Site.slot_of.Given as goal

abbrev pub invariant-loop-i : goal.invariant-loop-i
invariant-loop-i l = (l.i ≤ 128) × ((j : ℕ) → j < l.i → (slot_at l.self.slots j).id ≡ l.id → ⊥)

abbrev pub decreases-loop-i : goal.decreases-loop-i
decreases-loop-i l = 128 - l.i
