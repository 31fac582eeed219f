-- What `site` promises of the call, in the words of the promises. Assumes nothing.
use Rattle.site.proofs.Shape.{shaped}
use Rattle.promised.proofs.Promised.{promised}
use Rattle.promised.proofs.query.Goals as goal

pub returns : goal.returns
returns c =
    let good = c.well_formed in
    promised (shaped _ _ good.0) c.query.ensures (shaped _ _ c.query.type_inv.1.1.0)
