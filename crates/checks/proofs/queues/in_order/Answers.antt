-- Each turn decides the rule of its class's queue. Assumes nothing.
use native.Mathlib.Omega.{arith}
use borrow.Author.Count.{below_more}
use Rattle.plain.proofs.Deciding.{decides_false}
use Rattle.checks.proofs.Parts.{named_in, order_in}
use Rattle.checks.proofs.queues.in_order.Goals as goal

pub queue_ok-requires : goal.queue_ok-requires
queue_ok-requires c = rw c.queue.ensures (named_in c.args.queues.now c.loop-c.c (omega arith) c.requires)

pub returns-then-not-queue_ok : goal.returns-then-not-queue_ok
returns-then-not-queue_ok c =
    let d = order_in c.args.queues.now c.loop-c.c (omega arith) (rw c.queue.ensures at c.queue_ok.ensures) in
    decides_false (λ h. d.no c.if-not-queue_ok.true (h _ (omega arith)))

pub loop-c-preserved : goal.loop-c-preserved
loop-c-preserved c =
    let d = order_in c.args.queues.now c.loop-c.c (omega arith) (rw c.queue.ensures at c.queue_ok.ensures) in
    below_more _ _ c.loop-c.invariant (d.yes c.if-not-queue_ok.false)
