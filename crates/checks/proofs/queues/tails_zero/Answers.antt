-- Each turn decides the rule of its class. Assumes nothing.
use Prim.Native.Nat.{◌+◌, ◌*◌}
use native.Mathlib.Omega.{arith}
use borrow.Author.Count.{below_more}
use Rattle.plain.proofs.Deciding.{decides_false}
use Rattle.store.specs.Checks.{nth}
use Rattle.checks.proofs.Parts.{zero_in_part}
use Rattle.checks.proofs.queues.tails_zero.Goals as goal

pub loop-c-preserved : goal.loop-c-preserved
loop-c-preserved c =
    let v· = c.args.queues.now in
    let i· = c.loop-c.c in
    let s· = v·.short i· (omega arith) in
    let d = zero_in_part v·.places.now (136 * i· + nth v·.lens.now i·) (136 * i· + 136) (omega arith) (omega (arith, v·.whole)) c.all_zero.ensures in
    below_more _ _ c.loop-c.invariant (d.yes c.if-not-all_zero.false)

pub returns-then-not-all_zero : goal.returns-then-not-all_zero
returns-then-not-all_zero c =
    let v· = c.args.queues.now in
    let i· = c.loop-c.c in
    let s· = v·.short i· (omega arith) in
    let d = zero_in_part v·.places.now (136 * i· + nth v·.lens.now i·) (136 * i· + 136) (omega arith) (omega (arith, v·.whole)) c.all_zero.ensures in
    decides_false (λ h. d.no c.if-not-all_zero.true (h i· (omega arith)))
