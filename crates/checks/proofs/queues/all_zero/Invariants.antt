use Rattle.plain.specs.Decides.{Decides}
use Rattle.store.specs.Checks.{ZeroFrom}
use Rattle.checks.proofs.queues.all_zero.Given as goal

abbrev pub invariant-loop-b : goal.invariant-loop-b
invariant-loop-b l = Decides l.zero (ZeroFrom l.places 0 l.b-index)
