use Rattle.store.proofs.Cells.{HeadsTo}
use Rattle.checks.proofs.queues.heads.Given as goal

abbrev pub invariant-loop-c : goal.invariant-loop-c
invariant-loop-c l = HeadsTo l.places l.lens l.heads l.c
