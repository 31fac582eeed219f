-- `usedmap::UsedMap::is_used` meets its contract: below 64 the map's flag is the first word's, and from 64 on the second's. Assumes nothing.
use mathlib.Core.Path.{sym, ◌∙◌}
use Rattle.usedmap.proofs.Flags.{get_lo, get_hi}
use Rattle.usedmap.proofs.UsedMap.is_used.Goals as goal

pub returns-then-i-lt-WORD_SLOTS : goal.returns-then-i-lt-WORD_SLOTS
returns-then-i-lt-WORD_SLOTS c =
    let a = c.args in
    c.bit.ensures ∙ sym (get_lo a.self.lo a.self.hi a.i c.if-i-lt-WORD_SLOTS.true)

pub returns-else-i-lt-WORD_SLOTS : goal.returns-else-i-lt-WORD_SLOTS
returns-else-i-lt-WORD_SLOTS c =
    let a = c.args in
    c.bit-else-i-lt-WORD_SLOTS.ensures ∙ sym (get_hi a.self.lo a.self.hi a.i c.if-i-lt-WORD_SLOTS.false)
