-- `queries::names` meets its contract: the digit of the mask, as a longer word. Assumes nothing.
use mathlib.Core.Path.{sym, ◌∙◌}
use Rattle.queries.proofs.Masks.{named_is}
use Rattle.queries.proofs.names.Goals as goal

pub returns : goal.returns
returns c = c.bit.ensures ∙ rw c.from.ensures (sym (named_is c.args.mask c.args.c c.requires))
