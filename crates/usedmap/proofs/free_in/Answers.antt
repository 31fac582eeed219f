-- `usedmap::free_in` meets its contract: the zeros below the complement's lowest set digit are the set digits below the word's lowest clear
-- one, of 64. Assumes nothing.
use Rattle.std.proofs.Common.{arith}
use Rattle.usedmap.specs.Flags.{bits_of}
use Rattle.usedmap.proofs.Bits.{bits_first, bits_length}
use Rattle.usedmap.proofs.Flags.{first_le}
use Rattle.usedmap.proofs.free_in.Goals as goal

pub returns-then-i-lt-WORD_SLOTS-clause-some : goal.returns-then-i-lt-WORD_SLOTS-clause-some
returns-then-i-lt-WORD_SLOTS-clause-some c = (bits_first 64 c.args.w c.ranges.w.fits, c.if-i-lt-WORD_SLOTS.true)

pub returns-else-i-lt-WORD_SLOTS-clause-none : goal.returns-else-i-lt-WORD_SLOTS-clause-none
returns-else-i-lt-WORD_SLOTS-clause-none c =
    let w = c.args.w in
    omega (arith, c.if-i-lt-WORD_SLOTS.false, bits_first 64 w c.ranges.w.fits, first_le (bits_of 64 w), bits_length 64 w)
