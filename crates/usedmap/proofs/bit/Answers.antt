-- `usedmap::bit` meets its contract: the flag at i is the lowest digit of the word shifted down by i. Assumes nothing.
use mathlib.Core.Path.{sym}
use Rattle.usedmap.proofs.Bits.{bits_get}
use Rattle.usedmap.proofs.bit.Goals as goal

pub returns : goal.returns
returns c = sym (bits_get 64 c.args.w c.args.i c.requires)
