-- All places are in use once 256 numbers were given; before that, those from 1 on. Assumes nothing.
use Prim.Native.Nat.{◌<◌}
use native.Mathlib.Omega.{arith}
use lib.Dec.{leb}
use borrow.Author.Tests.{leb-true, leb-false}
use Rattle.plain.proofs.Tests.{by_test}
use Rattle.plain.proofs.Deciding.{decides_true, decides_as, decides_le}
use Rattle.kept.proofs.Places.{all_in_use, used_from_one, spare_past}
use Rattle.kept.proofs.in_use.Goals as goal

pub returns-then-confirmations-ge-KEPT : goal.returns-then-confirmations-ge-KEPT
returns-then-confirmations-ge-KEPT c = decides_true (all_in_use _ _ c.if-confirmations-ge-KEPT.true c.requires)

pub returns : goal.returns
returns c =
    let few : c.args.confirmations < 256 = omega (arith, c.if-confirmations-ge-KEPT.false) in
    let some : 0 < c.args.p = omega (arith, c.if-p-eq0.false) in
    decides_as (λ l. used_from_one _ _ some l few)
    (λ u. by_test (leb c.args.p c.args.confirmations) (λ y. leb-true _ _ y)
    (λ f. absurd (spare_past _ _ (leb-false _ _ f) c.requires u)))
    (decides_le _ _)
