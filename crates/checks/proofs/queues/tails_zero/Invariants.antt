use Prim.Native.Nat.{ℕ, ◌+◌, ◌*◌, ◌<◌}
use Rattle.plain.specs.Sizes.{most_queued}
use Rattle.store.specs.Checks.{ZeroFrom, nth}
use Rattle.checks.proofs.queues.tails_zero.Given as goal

abbrev pub invariant-loop-c : goal.invariant-loop-c
invariant-loop-c l = (k : ℕ) → k < l.c → ZeroFrom l.queues.places.now (most_queued * k + nth l.queues.lens.now k) (most_queued * k + most_queued)
