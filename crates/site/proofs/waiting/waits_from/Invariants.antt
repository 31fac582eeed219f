use Prim.Native.Nat.{ℕ, ◌+◌, ◌<◌, ◌≤◌}
use mathlib.Core.Logic.{◌⊎◌}
use lib.ListN.{get_or}
use Rattle.site.proofs.waiting.waits_from.Given as goal

abbrev pub invariant-loop-p : goal.invariant-loop-p
invariant-loop-p l =
    ((k : ℕ) → k < l.p → (128 ≤ get_or l.queue (l.a + k) 0) ⊎ (0 < get_or l.numbers (get_or l.queue (l.a + k) 0) 0))
