use Prim.Native.Nat.{ℕ, ◌<◌, ◌≤◌}
use mathlib.Core.Path.{◌≡◌}
use mathlib.Core.Logic.{◌⊎◌}
use Rattle.plain.specs.Decides.{Decides}
use Rattle.slots.specs.Meaning.{slot_at, slot_free}
use Rattle.slots.specs.Rules.{Holds}
use Rattle.store.proofs.Gathered.{OwnedTo}
use Rattle.checks.proofs.gather.gather_owners.Given as goal

abbrev pub invariant-loop-i : goal.invariant-loop-i
invariant-loop-i l =
    Decides l.fit ((k : ℕ) → k < l.i → ((slot_at l.fn.slots k ≡ slot_free) ⊎ Holds (slot_at l.fn.slots k)) × ((slot_at l.fn.slots k).backs ≤ l.top))
    × OwnedTo l.fn.slots l.all.ids l.all.classes l.i
