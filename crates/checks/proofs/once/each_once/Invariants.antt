use Rattle.store.specs.Checks.{nth}
use Rattle.store.proofs.Taking.{Seen}
use Rattle.checks.specs.Once.{may}
use Rattle.checks.proofs.once.each_once.Given as goal

abbrev pub invariant-loop-c : goal.invariant-loop-c
invariant-loop-c l =
    Seen (may (nth l.owners.classes) l.initial.u) (may (nth l.owners.classes) l.u) l.queues.places.now l.queues.lens.now l.c
