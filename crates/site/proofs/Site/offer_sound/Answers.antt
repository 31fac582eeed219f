-- `Site::offer_sound` meets its contract: each way out is a row of the table, or the request stands in the lowest free slot. Assumes nothing.
use Prim.Native.Nat.{ℕ, ◌<◌, ◌%◌}
use mathlib.Core.Path.{◌≡◌, refl, sym}
use mathlib.Core.Bool.{false}
use mathlib.Core.List.{List}
use Rattle.std.proofs.Common.{Option, is_some}
use Rattle.usedmap.specs.Flags.{used_of, count_used}
use Rattle.usedmap.proofs.Flags.{count_le, used_length}
use native.Mathlib.Omega.{arith}
use Rattle.slots.specs.declared.Slot.{Slot}
use Rattle.slots.specs.Meaning.{slot_at}
use Rattle.slots.specs.Rules.{Holds}
use Rattle.site.specs.Held.{store, state_of, SlotOf}
use Rattle.site.proofs.Shape.{shaped}
use Rattle.site.proofs.Ways.{present, missing, in_some, is_there}
use Rattle.store.proofs.Canonical.{has_id, has_class}
use Rattle.store.proofs.Offered.{bad_record, id_queued, id_kept, slots_full, here, fits, offered_as}
use Rattle.site.proofs.Site.offer_sound.Goals as goal

not_full : (lo hi n : ℕ) → n ≡ count_used (used_of lo hi) → (n ≡ 128 → ⊥) → count_used (used_of lo hi) < 128
not_full lo hi n e ne = omega (arith, count_le (used_of lo hi), used_length lo hi)

-- no slot has the id of a record that was read
no_slot : (slots : List Slot) (v : Slot) (r : Option ℕ) → Holds v → is_some r ≡ false → SlotOf slots v.id r
    → (j : ℕ) → j < 128 → (slot_at slots j).id ≡ v.id → ⊥
no_slot slots v r h n s j l e = missing slots v.id r n s j l (omega (arith, has_id v h, e)) e

pub returns-in_default : goal.returns-in_default
returns-in_default c =
    let the-args = c.args in
    let pre = c.requires in
    rw c.number.ensures (bad_record (state_of the-args.self the-args.committed.now the-args.working.now) (shaped the-args.self _ c.well_formed.0) pre.0 pre.1
    the-args.bytes.now c.in_default.ensures.none)

pub returns-then-is_some : goal.returns-then-is_some
returns-then-is_some c =
    let the-args = c.args in
    let pre = c.requires in
    let v = c.in-Some.v in
    let i = c.in-Some.ensures.some in
    let at = present the-args.self.slots v.id c.slot_of.result (sym c.if-is_some.ensures) c.slot_of.ensures in
    rw c.number-then-is_some.ensures (id_queued (state_of the-args.self the-args.committed.now the-args.working.now) (shaped the-args.self _ c.well_formed.0) pre.0 pre.1
    the-args.bytes.now (sym i.ok_is) v (i.new refl) (i.request refl) at.0 at.1.1)

pub returns-then-among : goal.returns-then-among
returns-then-among c =
    let the-args = c.args in
    let pre = c.requires in
    let v = c.in-Some.v in
    let i = c.in-Some.ensures.some in
    let a = c.among.ensures.yes c.if-among.true in
    rw c.number-then-among.ensures (id_kept (state_of the-args.self the-args.committed.now the-args.working.now) (shaped the-args.self _ c.well_formed.0) pre.0 pre.1
    the-args.bytes.now (sym i.ok_is) v (i.new refl) (i.request refl)
    (no_slot the-args.self.slots v c.slot_of.result (i.new refl).held (sym c.if-is_some.ensures) c.slot_of.ensures) a.0 a.1 a.2)

pub returns-then-used_count-eq-SLOTS : goal.returns-then-used_count-eq-SLOTS
returns-then-used_count-eq-SLOTS c =
    let the-args = c.args in
    let pre = c.requires in
    let v = c.in-Some.v in
    let i = c.in-Some.ensures.some in
    rw c.number-then-used_count-eq-SLOTS.ensures (slots_full (state_of the-args.self the-args.committed.now the-args.working.now) (shaped the-args.self _ c.well_formed.0) pre.0 pre.1
    the-args.bytes.now (sym i.ok_is) v (i.new refl) (i.request refl)
    (no_slot the-args.self.slots v c.slot_of.result (i.new refl).held (sym c.if-is_some.ensures) c.slot_of.ensures)
    (λ j l e. c.among.ensures.no c.if-among.false (j, l, e)) (omega (arith, c.used_count.ensures, c.if-used_count-eq-SLOTS.true)))

pub unwrap-s-requires : goal.unwrap-s-requires
unwrap-s-requires c =
    let the-args = c.args in
    let pre = c.requires in
    let v = c.in-Some.v in
    let i = c.in-Some.ensures.some in
    let g = here (state_of the-args.self the-args.committed.now the-args.working.now) (shaped the-args.self _ c.well_formed.0) pre.0 pre.1
    the-args.bytes.now (sym i.ok_is) v (i.new refl) (i.request refl)
    (no_slot the-args.self.slots v c.slot_of.result (i.new refl).held (sym c.if-is_some.ensures) c.slot_of.ensures)
    (λ j l e. c.among.ensures.no c.if-among.false (j, l, e))
    (not_full the-args.self.used.lo the-args.self.used.hi c.used_count.result c.used_count.ensures c.if-used_count-eq-SLOTS.false) in
    is_there _ _ c.lowest_free.ensures.none (λ e. omega (arith, e, g.0))

pub enqueue-self-requires : goal.enqueue-self-requires
enqueue-self-requires c =
    let the-args = c.args in
    let pre = c.requires in
    let v = c.in-Some.v in
    let i = c.in-Some.ensures.some in
    let s = in_some _ _ _ c.unwrap-s.ensures c.lowest_free.ensures.some in (
      s.1,
      has_class v (i.new refl).held,
      fits (state_of the-args.self the-args.committed.now the-args.working.now) (shaped the-args.self _ c.well_formed.0) pre.0 pre.1
          the-args.bytes.now (sym i.ok_is) v (i.new refl) (i.request refl)
          (no_slot the-args.self.slots v c.slot_of.result (i.new refl).held (sym c.if-is_some.ensures) c.slot_of.ensures)
          (λ j l e. c.among.ensures.no c.if-among.false (j, l, e))
          (not_full the-args.self.used.lo the-args.self.used.hi c.used_count.result c.used_count.ensures c.if-used_count-eq-SLOTS.false),
    )

pub bounds-self-c : goal.bounds-self-c
bounds-self-c c = has_class c.in-Some.v (c.in-Some.ensures.some.new refl).held

pub returns : goal.returns
returns c =
    let the-args = c.args in
    let pre = c.requires in
    let v = c.in-Some.v in
    let i = c.in-Some.ensures.some in
    let s = in_some _ _ _ c.unwrap-s.ensures c.lowest_free.ensures.some in
    let e = c.enqueue-self in
    offered_as (state_of the-args.self the-args.committed.now the-args.working.now) (shaped the-args.self _ c.well_formed.0) pre.0 pre.1
    the-args.bytes.now (sym i.ok_is) v (i.new refl) (i.request refl)
    (no_slot the-args.self.slots v c.slot_of.result (i.new refl).held (sym c.if-is_some.ensures) c.slot_of.ensures)
    (λ j l e. c.among.ensures.no c.if-among.false (j, l, e))
    (not_full the-args.self.used.lo the-args.self.used.hi c.used_count.result c.used_count.ensures c.if-used_count-eq-SLOTS.false)
    c.unwrap-s.result (c.unwrap-s.result % 256) (store e.result) s.0 e.ensures.is e.ensures.used (omega (arith, s.1))
