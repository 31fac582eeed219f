use Prim.Native.Nat.{◌+◌, ◌*◌, ◌≤◌}
use mathlib.Core.Path.{◌≡◌}
use lib.ListN.{drop}
use Rattle.site.specs.Held.{store}
use Rattle.slots.specs.Meaning.{slot_at}
use Rattle.plain.specs.Queue as Q
use Rattle.store.specs.Meaning.{queue_of}
use Rattle.site.proofs.Site.to_do.Given as goal

abbrev pub invariant-loop-p : goal.invariant-loop-p
invariant-loop-p l =
    (l.w ≤ 7 * l.p)
    × (l.w + Q.up_to (Q.id_is (slot_at l.self.slots l.s).id) (drop l.p (queue_of (store l.self) l.c)) ≡ Q.up_to (Q.id_is (slot_at l.self.slots l.s).id) (queue_of (store l.self) l.c))
