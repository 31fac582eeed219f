-- `usedmap::with_bit` meets its contract: 1 shifted by i is the digit i alone, so the `or` sets it and the `and` with its complement clears it.
-- Assumes nothing.
use Rattle.std.proofs.Common.{◌^◌}
use lib.Bits.{or_lt}
use lib.Pow.{pow-lt}
use Rattle.usedmap.proofs.Bits.{bits_or, bits_and, one_shifted}
use Rattle.usedmap.proofs.with_bit.Goals as goal

pub returns-then-used : goal.returns-then-used
returns-then-used c =
    let a = c.args in
    rw (c.if-used.true, one_shifted 64 a.i c.requires) record {
      flags = bits_or 64 a.w a.i;
      digits = λ k l f. or_lt k a.w (2 ^ a.i) f (pow-lt l);
    }

pub returns-else-used-clause-flags : goal.returns-else-used-clause-flags
returns-else-used-clause-flags c =
    let a = c.args in
    rw (c.if-used.false, one_shifted 64 a.i c.requires) (bits_and 64 a.w a.i c.ranges.w.fits c.requires)
