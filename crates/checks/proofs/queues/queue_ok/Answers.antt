-- Each turn decides the rule of its place: of its number, and of the place before it. Assumes nothing.
use Prim.Native.Nat.{◌+◌}
use native.Mathlib.Omega.{arith}
use mathlib.Core.Path.{◌≡◌}
use borrow.Author.Count.{below_more}
use Rattle.plain.proofs.Deciding.{decides_false}
use Rattle.store.specs.Checks.{nth}
use Rattle.checks.proofs.Parts.{place_ok, follows_in}
use Rattle.checks.proofs.queues.queue_ok.Goals as goal
use Rattle.checks.proofs.queues.queue_ok.Goals.{else-p-gt0, then-p-gt0+else-not-behind}

pub bounds-stages-i-then-p-gt0-2 : goal.bounds-stages-i-then-p-gt0-2
bounds-stages-i-then-p-gt0-2 c = let z : 0 + c.loop-p.p ≡ c.loop-p.p = omega arith in rw z at (c.requires c.loop-p.p (omega arith))

pub returns-then-not-behind : goal.returns-then-not-behind
returns-then-not-behind c =
    let s· = c.args.stages.now in
    decides_false (λ h. c.behind.ensures.no c.if-not-behind.true (follows_in (nth s·.lines) (nth s·.dones) (nth s·.marks) c.args.queue.now
    c.args.confirmations c.loop-p.p (h c.loop-p.p (omega arith)) c.if-p-gt0.true))

pub loop-p-preserved : goal.loop-p-preserved
loop-p-preserved c =
    let s· = c.args.stages.now in
    below_more _ _ c.loop-p.invariant (place_ok (nth s·.lines) (nth s·.dones) (nth s·.marks) c.args.queue.now c.args.confirmations c.loop-p.p
    c.if-confirmations-line.false
    (λ z. elim c.if-p-gt0.branch [ then-p-gt0+else-not-behind w ↦ w.behind.ensures.yes w.if-not-behind.false | else-p-gt0 w ↦ absurd (omega (arith, w.if-p-gt0.false)) ]))
