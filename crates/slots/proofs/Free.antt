-- The free slot, and when two slots are the same: by their fields. Assumes nothing.
use Rattle.std.proofs.Common.{◌≡◌, Bool, ◌&&◌, replicate, eqb, sym, ap, ◌∙◌, arith, ext_get_or}
use lib.ListN.{length-replicate, get_or-replicate}
use Rattle.std.specs.Array.{AllOfLen}
use lib.Pointwise.{pointwise}
use Rattle.plain.specs.Sizes.{most_ops}
use Rattle.plain.specs.Decides.{Decides}
use Rattle.plain.proofs.Deciding.{decides_as, decides_both, decides_eq, decides_pointwise}
use Rattle.cells.specs.declared.Op.{Op}
use Rattle.cells.specs.Ops.{no_op}
use Rattle.slots.specs.declared.Slot.{Slot}
use Rattle.slots.specs.Meaning.{slot_free}

-- as the derived test compares two operations, and as the derived default has each zero
abbrev pub eq_op : Op → Op → Bool
eq_op a b = eqb a.code b.code && (eqb a.cell b.cell && (eqb a.second b.second && eqb a.amount b.amount))

abbrev pub OpZero : Op → Type 0
OpZero o = (o.code ≡ 0) × ((o.cell ≡ 0) × ((o.second ≡ 0) × (o.amount ≡ 0)))

decides_op : (a b : Op) → Decides (eq_op a b) (a ≡ b)
decides_op a b =
    decides_as
    (λ h. λ i. record { code = h.0 i; cell = h.1.0 i; second = h.1.1.0 i; amount = h.1.1.1 i })
    (λ e. (ap (λ (o : Op). o.code) e, (ap (λ (o : Op). o.cell) e, (ap (λ (o : Op). o.second) e, ap (λ (o : Op). o.amount) e))))
    (decides_both (decides_eq a.code b.code) (decides_both (decides_eq a.cell b.cell)
    (decides_both (decides_eq a.second b.second) (decides_eq a.amount b.amount))))

zero_op : (o : Op) → OpZero o → o ≡ no_op
zero_op o z = λ i. record { code = z.0 i; cell = z.1.0 i; second = z.1.1.0 i; amount = z.1.1.1 i }

abbrev pub SlotZero : Slot → Type 0
SlotZero v =
    (v.id ≡ 0) × ((v.class ≡ 0) × ((v.count ≡ 0) × (AllOfLen OpZero v.ops most_ops × ((v.number ≡ 0) × ((v.done ≡ 0) × ((v.mark ≡ 0) × (v.backs ≡ 0)))))))

-- what `Slot::default` gives is the free slot
pub is_free : (v : Slot) → SlotZero v → v ≡ slot_free
is_free v z =
    let all = z.1.1.1.0 in
    let ops : v.ops ≡ replicate most_ops no_op =
    ext_get_or no_op v.ops (replicate most_ops no_op) (all.long ∙ sym (length-replicate most_ops no_op))
    (λ k l. zero_op _ (all.at k no_op (omega (arith, all.long))) ∙ sym (get_or-replicate most_ops k no_op no_op (omega (arith, all.long)))) in
    λ i. record {
      id = z.0 i;
      class = z.1.0 i;
      count = z.1.1.0 i;
      ops = ops i;
      number = z.1.1.1.1.0 i;
      done = z.1.1.1.1.1.0 i;
      mark = z.1.1.1.1.1.1.0 i;
      backs = z.1.1.1.1.1.1.1 i;
    }

pub decides_slot : (v w : Slot)
    → Decides (eqb v.id w.id && (eqb v.class w.class && (eqb v.count w.count && (pointwise eq_op v.ops w.ops && (eqb v.number w.number
    && (eqb v.done w.done && (eqb v.mark w.mark && eqb v.backs w.backs))))))) (v ≡ w)
decides_slot v w =
    decides_as
    (λ h. λ i. record {
      id = h.0 i;
      class = h.1.0 i;
      count = h.1.1.0 i;
      ops = h.1.1.1.0 i;
      number = h.1.1.1.1.0 i;
      done = h.1.1.1.1.1.0 i;
      mark = h.1.1.1.1.1.1.0 i;
      backs = h.1.1.1.1.1.1.1 i;
    })
    (λ e. (
      ap (λ (v : Slot). v.id) e,
      (
        ap (λ (v : Slot). v.class) e,
        (
          ap (λ (v : Slot). v.count) e,
          (
            ap (λ (v : Slot). v.ops) e,
            (ap (λ (v : Slot). v.number) e, (ap (λ (v : Slot). v.done) e, (ap (λ (v : Slot). v.mark) e, ap (λ (v : Slot). v.backs) e))),
          ),
        ),
      ),
    ))
    (decides_both (decides_eq v.id w.id) (decides_both (decides_eq v.class w.class) (decides_both (decides_eq v.count w.count)
    (decides_both (decides_pointwise decides_op v.ops w.ops) (decides_both (decides_eq v.number w.number) (decides_both (decides_eq v.done w.done)
    (decides_both (decides_eq v.mark w.mark) (decides_eq v.backs w.backs))))))))
