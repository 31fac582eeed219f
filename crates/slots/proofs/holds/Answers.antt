-- Each rule of a valid record that is no rule of an operation is tested, and then those of the operations. Assumes nothing.
use native.Mathlib.Omega.{arith}
use Rattle.plain.proofs.Deciding.{decides_false, decides_as}
use Rattle.slots.proofs.Shape.{seven, id_fits}
use Rattle.slots.proofs.Records.{Held, holds, held}
use Rattle.slots.proofs.holds.Goals as goal
use Rattle.slots.proofs.holds.Goals.{then-v-eq0-via-then-v-eq0, then-v-eq0-via-else-v-eq0+then-v-ge-CLASSES, then-v-eq0-via-else-v-eq0+else-v-ge-CLASSES+then-count-eq0, then-v-eq0-via-else-v-eq0+else-v-ge-CLASSES+else-count-eq0+then-count-gt-MOST_OPS}

pub returns-then-v-eq0 : goal.returns-then-v-eq0
returns-then-v-eq0 c =
    let v = c.args.v in
    let ops = seven v _ c.well_formed.0 in
    decides_false (λ h.
    let f : Held v = held v ops h in
    let m = h.count in
    elim c.then-v-eq0.branch [
      | then-v-eq0-via-then-v-eq0 w ↦ let t = w.if-v-eq0.true in omega arith
      | then-v-eq0-via-else-v-eq0+then-v-ge-CLASSES w ↦ let t = w.if-v-ge-CLASSES.true in omega arith
      | then-v-eq0-via-else-v-eq0+else-v-ge-CLASSES+then-count-eq0 w ↦ let t = w.if-count-eq0.true in omega arith
      | then-v-eq0-via-else-v-eq0+else-v-ge-CLASSES+else-count-eq0+then-count-gt-MOST_OPS w ↦ let t = w.if-count-gt-MOST_OPS.true in omega arith
    ])

pub returns : goal.returns
returns c =
    let v = c.args.v in
    let ops = seven v _ c.well_formed.0 in
    decides_as
    (λ e. holds v ops e (omega arith) (id_fits v _ c.well_formed.0) (omega arith) (omega arith) (omega arith))
    (λ h. (held v ops h).ops)
    c.ops_ok.ensures
