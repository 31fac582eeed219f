-- What `site` promises of the call, in the words of the promises. Assumes nothing.
use Rattle.site.proofs.Shape.{shaped}
use Rattle.promised.proofs.Promised.{promised}
use Rattle.promised.proofs.work.Goals as goal

pub returns : goal.returns
returns c =
    let good = c.well_formed in
    promised (shaped _ _ good.0) c.work.ensures (shaped _ _ c.work.type_inv.1.1.0)
