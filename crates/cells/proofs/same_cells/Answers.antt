-- After i turns the test decides that the first i cells are the same. Assumes nothing.
use Rattle.std.proofs.Common.{ℕ, List, get_or, ap, arith, ext_get_or, rules, below_none}
use Rattle.plain.proofs.Deciding.{decides_true, decides_as, decides_eq, decides_more}
use Rattle.cells.proofs.same_cells.Goals as goal

pub loop-i-init : goal.loop-i-init
loop-i-init c = decides_true (below_none _)

pub loop-i-preserved : goal.loop-i-preserved
loop-i-preserved c = decides_more _ _ c.loop-i.invariant (decides_eq _ _)

pub returns : goal.returns
returns c =
    decides_as
    (λ h. ext_get_or 0 _ _ (search rules) (λ k l. h k (omega arith)))
    (λ e j l. ap (λ (l : List ℕ). get_or l j 0) e)
    c.loop-i.invariant
