use Prim.Native.Nat.{ℕ, ◌*◌, ◌<◌}
use mathlib.Core.Path.{◌≡◌}
use Rattle.plain.specs.Sizes.{most_queued}
use Rattle.store.specs.Checks.{nth, sum_over}
use Rattle.checks.proofs.queues.sums_right.Given as goal

abbrev pub invariant-loop-c : goal.invariant-loop-c
invariant-loop-c l = (k : ℕ) → k < l.c → nth l.queues.sums.now k ≡ sum_over (nth l.stages.dues) l.queues.places.now (most_queued * k) (nth l.queues.lens.now k)
