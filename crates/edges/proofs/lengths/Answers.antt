-- `lengths` is safe: the part of 63 bytes is there where it is lent. Assumes nothing.
use lib.Seq.{length-take-le}
use mathlib.Core.Path.{sym}
use native.Mathlib.Omega.{arith}
use Rattle.edges.proofs.lengths.Goals as goal

pub slice_bounds-offered-end : goal.slice_bounds-offered-end
slice_bounds-offered-end c = sym (length-take-le 63 c.args.bytes.now (omega arith))
