use Rattle.store.specs.Checks.{QueueOk, nth}
use Rattle.checks.proofs.queues.queue_ok.Given as goal

abbrev pub invariant-loop-p : goal.invariant-loop-p
invariant-loop-p l =
    QueueOk (nth l.stages.lines) (nth l.stages.dones) (nth l.stages.marks) l.queue l.confirmations 0 l.p
