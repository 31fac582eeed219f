-- `full_house` is safe: every call hands back runs of the length that it was lent. Assumes nothing.
use mathlib.Core.Path.{◌∙◌}
use Rattle.edges.proofs.full_house.Goals as goal

pub shape_of-committed : goal.shape_of-committed
shape_of-committed c =
    c.work-done.auto.committed ∙ c.confirm-told.auto.committed ∙ c.fresh-start.auto.committed

pub shape_of-working : goal.shape_of-working
shape_of-working c =
    c.work-done.auto.working ∙ c.confirm-told.auto.working ∙ c.fresh-start.auto.working
