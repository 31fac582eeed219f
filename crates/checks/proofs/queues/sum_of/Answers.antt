-- After so many places w is what they take, at most 255 each. Assumes nothing.
use borrow.Author.Rules.{rules}
use Prim.Native.Nat.{◌+◌, ◌<◌, ◌^◌}
use native.Mathlib.Omega.{arith}
use mathlib.Core.Path.{◌≡◌}
use Rattle.store.specs.Checks.{nth}
use Rattle.store.proofs.Summing.{none_summed, one_summed}
use Rattle.checks.proofs.queues.sum_of.Goals as goal

pub loop-b-init : goal.loop-b-init
loop-b-init c = (omega arith, none_summed _ _ _)

pub loop-b-preserved : goal.loop-b-preserved
loop-b-preserved c =
    let i· = c.loop-b.b-index in
    let z : 0 + i· ≡ i· = omega arith in
    let fits : nth c.args.dues.now (nth c.args.queue.now i·) < 2 ^ 8 = search rules in
    (omega (arith, c.loop-b.invariant.0), omega (arith, c.loop-b.invariant.1, rw z at (one_summed (nth c.args.dues.now) c.args.queue.now 0 i·)))
