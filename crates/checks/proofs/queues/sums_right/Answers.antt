-- Each turn decides the rule of its class. Assumes nothing.
use native.Mathlib.Omega.{arith}
use mathlib.Core.Path.{sym, ◌∙◌}
use borrow.Author.Count.{below_more}
use Rattle.plain.proofs.Deciding.{decides_false}
use Rattle.store.specs.Checks.{nth}
use Rattle.checks.proofs.Parts.{named_in, queue_long, sum_in}
use Rattle.checks.proofs.queues.sums_right.Goals as goal

pub sum_of-requires : goal.sum_of-requires
sum_of-requires c =
    let v· = c.args.queues.now in
    let i· = c.loop-c.c in
    rw c.queue.ensures (omega (arith, queue_long v· i· (omega arith), v·.short i· (omega arith)), named_in v· i· (omega arith) c.requires)

pub returns-then-queues-c : goal.returns-then-queues-c
returns-then-queues-c c =
    let e = sum_in c.args.queues.now c.loop-c.c (omega arith) (nth c.args.stages.now.dues) in
    decides_false (λ h. c.if-queues-c.true (h c.loop-c.c (omega arith) ∙ sym (rw c.queue.ensures at c.sum_of.ensures ∙ e)))

pub loop-c-preserved : goal.loop-c-preserved
loop-c-preserved c =
    let e = sum_in c.args.queues.now c.loop-c.c (omega arith) (nth c.args.stages.now.dues) in
    below_more _ _ c.loop-c.invariant (c.if-queues-c.false ∙ (rw c.queue.ensures at c.sum_of.ensures) ∙ e)
