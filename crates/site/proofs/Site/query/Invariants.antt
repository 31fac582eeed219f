use Rattle.site.specs.Held.{store}
use Rattle.store.proofs.Turns.{Going}
use Rattle.site.proofs.Site.query.Given as goal

abbrev pub invariant-loop-c : goal.invariant-loop-c
invariant-loop-c l =
    Going (store l.initial.self) (store l.self) l.committed l.initial.working l.working l.mask l.p l.initial.self.confirmations l.c l.firsts
