-- Each turn takes one place. Assumes nothing.
use Prim.Native.Nat.{◌+◌, ◌*◌}
use native.Mathlib.Omega.{arith}
use mathlib.Core.Path.{◌≡◌}
use lib.ListN.{length}
use Rattle.store.specs.Checks.{nth}
use Rattle.store.proofs.Taking.{one_taken, too_often}
use Rattle.checks.specs.Once.{may}
use Rattle.checks.proofs.Parts.{queue_at, queue_long}
use Rattle.checks.proofs.once.class_once.Goals as goal

pub returns-then-not-take_one : goal.returns-then-not-take_one
returns-then-not-take_one c =
    let v· = c.args.queues.now in
    let i· = c.loop-b.b-index in
    let m· = may (nth c.args.classes.now) in
    let n· : length c.queue-b-items.result.now ≡ nth v·.lens.now c.args.c = rw c.queue-b-items.ensures (queue_long v· c.args.c c.requires) in
    let e· : nth c.queue-b-items.result.now i· ≡ nth v·.places.now (136 * c.args.c + i·) = rw c.queue-b-items.ensures (queue_at v· c.args.c c.requires i· (omega arith)) in
    let z· : m· c.loop-b.u c.args.c (nth v·.places.now (136 * c.args.c + i·)) ≡ 0 = rw e· at (rw c.if-not-take_one.true at c.take_one.ensures) in
    let s· = v·.short c.args.c c.requires in
    (too_often (m· c.args.u.now) v·.places.now v·.whole c.args.c c.requires (m· c.loop-b.u) i· (omega arith) c.loop-b.invariant
    (nth v·.lens.now c.args.c) (omega arith) z·)

pub loop-b-preserved : goal.loop-b-preserved
loop-b-preserved c =
    let v· = c.args.queues.now in
    let i· = c.loop-b.b-index in
    let m· = may (nth c.args.classes.now) in
    let n· : length c.queue-b-items.result.now ≡ nth v·.lens.now c.args.c = rw c.queue-b-items.ensures (queue_long v· c.args.c c.requires) in
    let e· : nth c.queue-b-items.result.now i· ≡ nth v·.places.now (136 * c.args.c + i·) = rw c.queue-b-items.ensures (queue_at v· c.args.c c.requires i· (omega arith)) in
    let s· = v·.short c.args.c c.requires in
    let t· = rw c.if-not-take_one.false at c.take_one.ensures in
    one_taken (m· c.args.u.now) v·.places.now v·.whole c.args.c c.requires (m· c.loop-b.u) i· (omega arith) c.loop-b.invariant _ (rw e· at t·)

pub returns : goal.returns
returns c =
    let v· = c.args.queues.now in
    let n· : length c.queue-b-items.result.now ≡ nth v·.lens.now c.args.c = rw c.queue-b-items.ensures (queue_long v· c.args.c c.requires) in
    let e· : c.loop-b.b-index ≡ nth v·.lens.now c.args.c = omega arith in
    rw e· at c.loop-b.invariant
