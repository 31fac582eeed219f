use Prim.Native.Nat.{ℕ, ◌*◌, ◌<◌}
use Rattle.plain.specs.Sizes.{most_queued}
use Rattle.store.specs.Checks.{QueueOk, nth}
use Rattle.checks.proofs.queues.in_order.Given as goal

abbrev pub invariant-loop-c : goal.invariant-loop-c
invariant-loop-c l =
    (k : ℕ) → k < l.c → QueueOk (nth l.stages.lines) (nth l.stages.dones) (nth l.stages.marks) l.queues.places.now l.confirmations (most_queued * k) (nth l.queues.lens.now k)
