-- `usedmap::UsedMap::with_slot` meets its contract: a flag of the first word stands at its own index in the map, and one of the second 64 further on.
-- Assumes nothing.
use Rattle.usedmap.proofs.Flags.{set_lo, set_hi}
use Rattle.usedmap.proofs.UsedMap.with_slot.Goals as goal

pub returns-then-i-lt-WORD_SLOTS : goal.returns-then-i-lt-WORD_SLOTS
returns-then-i-lt-WORD_SLOTS c =
    let a = c.args in
    set_lo a.self.lo a.self.hi a.i c.with_bit.result a.used c.if-i-lt-WORD_SLOTS.true c.with_bit.ensures.flags

pub returns : goal.returns
returns c =
    let a = c.args in
    set_hi a.self.lo a.self.hi a.i c.with_bit-2.result a.used c.if-i-lt-WORD_SLOTS.false c.with_bit-2.ensures.flags
