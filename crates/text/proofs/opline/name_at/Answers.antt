-- After a turn the name of one more code does not stand there. Assumes nothing.
use Rattle.text.proofs.Pieces.{room}
use Rattle.text.proofs.opline.name_at.Goals as goal

pub returns-then-begins-clause-next_in_bounds : goal.returns-then-begins-clause-next_in_bounds
returns-then-begins-clause-next_in_bounds c = let b = c.begins.ensures.yes c.if-begins.true in room _ _ _ _ b.1
