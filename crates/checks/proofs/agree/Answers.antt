-- Each piece decides one rule, and the pieces before it give what it asks for. Assumes nothing.
use borrow.Author.Rules.{rules}
use Rattle.store.specs.Checks.{flag_of, nth}
use Rattle.store.proofs.Taking.{range_of}
use Rattle.checks.proofs.agree.Goals as goal

pub in_order-requires : goal.in_order-requires
in_order-requires c =
    let v· = c.args.queues.now in
    range_of (flag_of c.args.map.lo c.args.map.hi) (nth c.args.owners.now.classes) c.args.table v·.places.now v·.lens.now v·.whole (search rules) v·.short
    (c.each_once.ensures.yes c.if-not-each_once.false)

pub sums_right-requires : goal.sums_right-requires
sums_right-requires c =
    let v· = c.args.queues.now in
    range_of (flag_of c.args.map.lo c.args.map.hi) (nth c.args.owners.now.classes) c.args.table v·.places.now v·.lens.now v·.whole (search rules) v·.short
    (c.each_once.ensures.yes c.if-not-each_once.false)
