-- What the walk leaves may still stand; nothing is left exactly where the rule holds. Assumes nothing.
use native.Mathlib.Omega.{arith}
use Rattle.plain.proofs.Deciding.{decides_as}
use Rattle.store.specs.Checks.{nth}
use Rattle.store.proofs.Taking.{spent, once_of, nothing_left, all_free, all_read}
use Rattle.checks.specs.Once.{may}
use Rattle.checks.proofs.once.each_once.Goals as goal

pub returns-then-none_used : goal.returns-then-none_used
returns-then-none_used c =
    let k· = nth c.args.owners.now.classes in
    let v· = c.args.queues.now in
    let u· = c.loop-c.u in
    let m· = may k· (record { map = c.args.map; table = c.args.table }) in
    decides_as
    (λ r. once_of m· v·.places.now v·.lens.now (may k· u·) c.loop-c.c (omega arith) c.loop-c.invariant
    (nothing_left k· u·.table u·.map.lo u·.map.hi (c.none_used.ensures.yes c.if-none_used.true) r))
    (λ once. all_read k· u·.table u·.map.lo u·.map.hi c.args.owners.now.classed
    (spent m· v·.places.now v·.lens.now (may k· u·) c.loop-c.c (omega arith) c.loop-c.invariant once))
    c.all_read.ensures

pub returns-else-none_used : goal.returns-else-none_used
returns-else-none_used c =
    let k· = nth c.args.owners.now.classes in
    let v· = c.args.queues.now in
    let u· = c.loop-c.u in
    let m· = may k· (record { map = c.args.map; table = c.args.table }) in
    decides_as
    (λ n. absurd (c.none_used.ensures.no c.if-none_used.false n))
    (λ once. all_free k· u·.table u·.map.lo u·.map.hi c.args.owners.now.classed
    (spent m· v·.places.now v·.lens.now (may k· u·) c.loop-c.c (omega arith) c.loop-c.invariant once))
    c.none_used.ensures
