use Prim.Native.Nat.{◌*◌, ◌≤◌}
use mathlib.Core.Path.{◌≡◌}
use Rattle.store.specs.Checks.{nth, sum_over}
use Rattle.checks.proofs.queues.sum_of.Given as goal

abbrev pub invariant-loop-b : goal.invariant-loop-b
invariant-loop-b l = (l.w ≤ 255 * l.b-index) × (l.w ≡ sum_over (nth l.dues) l.queue 0 l.b-index)
