-- Each field is looked at. Assumes nothing.
use mathlib.Core.Path.{ap}
use Rattle.plain.proofs.Deciding.{decides_as, decides_both, decides_eq}
use Rattle.slots.specs.declared.Slot.{Slot}
use Rattle.slots.proofs.Shape.{seven}
use Rattle.slots.proofs.Records.{free_zero, all_zero}
use Rattle.slots.proofs.is_zero.Goals as goal

pub returns : goal.returns
returns c =
    let v = c.args.v in
    decides_as
    (λ h. all_zero v (seven v _ c.well_formed.0) h.1 h.0.0.0.0 h.0.0.0.1 h.0.0.1 h.0.1.0.0.0 h.0.1.0.0.1 h.0.1.0.1 h.0.1.1)
    (λ e. (
      (
        ((ap (λ (v : Slot). v.id) e, ap (λ (v : Slot). v.class) e), ap (λ (v : Slot). v.count) e),
        (((ap (λ (v : Slot). v.number) e, ap (λ (v : Slot). v.done) e), ap (λ (v : Slot). v.mark) e), ap (λ (v : Slot). v.backs) e),
      ),
      free_zero _ e,
    ))
    (decides_both (decides_both
    (decides_both (decides_both (decides_eq _ 0) (decides_eq _ 0)) (decides_eq _ 0))
    (decides_both (decides_both (decides_both (decides_eq _ 0) (decides_eq _ 0)) (decides_eq _ 0)) (decides_eq _ 0)))
    c.ops_zero.ensures)
