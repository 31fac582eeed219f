-- What `site` promises of the call, in the words of the promises. Assumes nothing.
use Rattle.site.proofs.Shape.{shaped}
use Rattle.promised.proofs.Promised.{promised}
use Rattle.promised.proofs.read.Goals as goal

pub returns : goal.returns
returns c =
    let good = c.well_formed in
    promised (shaped _ _ good.0) c.read.ensures (shaped _ _ good.0)
