use Rattle.store.specs.Checks.{Took, nth}
use Rattle.checks.specs.Once.{may}
use Rattle.checks.proofs.once.class_once.Given as goal

abbrev pub invariant-loop-b : goal.invariant-loop-b
invariant-loop-b l = Took (may (nth l.classes) l.fn.u) (may (nth l.classes) l.u) l.queues.places.now l.c l.b-index
