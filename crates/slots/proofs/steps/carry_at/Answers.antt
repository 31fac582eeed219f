-- The operation's place is its number from 1, and only one that declines reports it. Assumes nothing.
use native.Mathlib.Omega.{arith}
use Rattle.slots.proofs.Shape.{seven}
use Rattle.slots.proofs.Records.{held}
use Rattle.slots.proofs.steps.carry_at.Goals as goal

pub carry-requires : goal.carry-requires
carry-requires c =
    let v = c.args.v in
    let pre = c.requires in
    let next = (held v (seven v _ c.well_formed.0) pre.1).ops c.args.k (omega (arith, pre.2, pre.1.count)) in
    (pre.0, next.within pre.2)
