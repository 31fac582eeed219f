-- What `site` promises of the start, in the words of the promises. Assumes nothing.
use Rattle.promised.proofs.Promised.{begun}
use Rattle.promised.proofs.fresh.Goals as goal

pub returns : goal.returns
returns c = begun c.fresh.ensures
