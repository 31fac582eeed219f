-- `usedmap::used_in` meets its contract: the ones of a word are its flags that are set. Assumes nothing.
use Rattle.usedmap.proofs.Bits.{bits_count}
use Rattle.usedmap.proofs.used_in.Goals as goal

pub returns : goal.returns
returns c = bits_count 64 c.args.w c.ranges.w.fits
