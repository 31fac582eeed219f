-- A slot with an id is not the free one, and one without an id is no record. Assumes nothing.
use native.Mathlib.Omega.{arith}
use mathlib.Core.Logic.{inl, ⊎_elim}
use Rattle.plain.proofs.Deciding.{decides_as}
use Rattle.slots.proofs.Shape.{seven}
use Rattle.slots.proofs.Records.{held}
use Rattle.slots.proofs.slot_ok.Goals as goal

pub returns-then-v-eq0 : goal.returns-then-v-eq0
returns-then-v-eq0 c =
    let v = c.args.v in
    decides_as inl (⊎_elim (λ e. e) (λ h. absurd (omega (arith, (held v (seven v _ c.well_formed.0) h).id)))) c.is_zero.ensures
