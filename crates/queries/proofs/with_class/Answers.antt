-- `queries::with_class` meets its contract: the digit c of the mask is set, and it stays one of 16 digits. Assumes nothing.
use Rattle.std.proofs.Common.{◌<◌, arith, rules}
use Rattle.queries.proofs.Masks.{grown}
use Rattle.queries.proofs.with_class.Goals as goal

pub overflow_cast-result : goal.overflow_cast-result
overflow_cast-result c = let f : c.with_bit.result < 65536 = c.with_bit.ensures.digits 16 c.requires (omega (arith, c.from.ensures, c.ranges.mask.fits)) in search rules

pub returns : goal.returns
returns c = grown c.args.mask c.args.c _ c.requires (rw c.from.ensures at c.with_bit.ensures.flags)
