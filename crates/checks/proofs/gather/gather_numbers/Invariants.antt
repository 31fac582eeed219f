use Rattle.store.proofs.Gathered.{GatheredTo}
use Rattle.checks.proofs.gather.gather_numbers.Given as goal

abbrev pub invariant-loop-slot : goal.invariant-loop-slot
invariant-loop-slot l = GatheredTo l.slots (λ v. v.number) l.numbers l.slot
