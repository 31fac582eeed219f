-- `Site::look` meets its contract: the id's slot says whether it is confirmed; what is still to do is the class's sum, or its queue says it. Assumes
-- nothing.
use Prim.Native.Nat.{◌<◌}
use mathlib.Core.Path.{subst, sym, ◌∙◌}
use Rattle.site.proofs.Ways.{in_some}
use native.Mathlib.Omega.{arith}
use Rattle.store.proofs.Promise.{called_did}
use Rattle.slots.specs.declared.Slot.{Slot}
use Rattle.site.specs.Held.{state_of}
use Rattle.site.proofs.Shape.{shaped}
use Rattle.store.proofs.Counting.{countable}
use Rattle.store.proofs.Ending.{sum_is_w, waiting_last}
use Rattle.store.proofs.Asking.{look_unknown, found, look_unconfirmed, look_waits}
use Rattle.site.proofs.Site.look.Goals as goal

pub returns-in_default-slot_of : goal.returns-in_default-slot_of
returns-in_default-slot_of c =
    let the-args = c.args in
    let o = c.in_default.ensures in
    rw c.number-in_default-slot_of.ensures (called_did _ _ _ _ o.0 o.1 (look_unknown (state_of the-args.self the-args.committed.now the-args.working.now) (shaped the-args.self _
    c.well_formed.0) o.0 o.1 the-args.id c.in_default-slot_of.ensures))

pub seen-s-requires : goal.seen-s-requires
seen-s-requires c =
    let the-args = c.args in
    let x = state_of the-args.self the-args.committed.now the-args.working.now in
    let w = shaped the-args.self _ c.well_formed.0 in
    let o = c.in_default.ensures in
    let f = c.in-Some.ensures in
    let class = (found x w o.0 o.1 the-args.id c.in-Some.i f.0 f.1 f.2).1 in
    (o.1.laid, f.0, class, waiting_last x w o.0 o.1 _ class)

pub returns-then-v-eq0 : goal.returns-then-v-eq0
returns-then-v-eq0 c =
    let the-args = c.args in
    let o = c.in_default.ensures in
    let f = c.in-Some.ensures in
    let is = c.seen-s.ensures.0 in
    rw is (called_did _ _ _ _ o.0 o.1 (look_unconfirmed (state_of the-args.self the-args.committed.now the-args.working.now)
    (shaped the-args.self _ c.well_formed.0) o.0 o.1 the-args.id c.in-Some.i f.0 f.1 f.2 (rw (← is)
    (omega (arith, c.if-v-eq0.true)))))

pub returns-in-Some-w : goal.returns-in-Some-w
returns-in-Some-w c =
    let the-args = c.args in
    let x = state_of the-args.self the-args.committed.now the-args.working.now in
    let w = shaped the-args.self _ c.well_formed.0 in
    let o = c.in_default.ensures in
    let f = c.in-Some.ensures in
    let class = (found x w o.0 o.1 the-args.id c.in-Some.i f.0 f.1 f.2).1 in
    let is = c.seen-s.ensures.0 in
    let kept = in_some _ _ _ c.in-Some-w.is c.seen-s.ensures.1 in
    let confirmed : 0 < c.seen-s.result.slot.number = omega (arith, c.if-v-eq0.false) in
    rw is (called_did _ _ _ _ o.0 o.1 (look_waits x w o.0 o.1 the-args.id c.in-Some.i f.0 f.1 f.2
    (rw (← is) confirmed) _ (kept.0 ∙ sum_is_w x w o.0 o.1 _ class c.in-Some.i f.0 (omega (arith, f.1, f.2))
    (rw (← is) confirmed) kept.1)))

pub to_do-requires : goal.to_do-requires
to_do-requires c =
    let the-args = c.args in
    let x = state_of the-args.self the-args.committed.now the-args.working.now in
    let w = shaped the-args.self _ c.well_formed.0 in
    let o = c.in_default.ensures in
    let f = c.in-Some.ensures in
    let class = (found x w o.0 o.1 the-args.id c.in-Some.i f.0 f.1 f.2).1 in (
      countable x w o.0 o.1 _ (subst (λ (v : Slot). v.class < 16) (sym c.seen-s.ensures.0) class),
      f.0,
      omega (arith, f.1, f.2),
    )

pub returns : goal.returns
returns c =
    let the-args = c.args in
    let o = c.in_default.ensures in
    let f = c.in-Some.ensures in
    let is = c.seen-s.ensures.0 in
    rw is (called_did _ _ _ _ o.0 o.1 (look_waits (state_of the-args.self the-args.committed.now the-args.working.now)
    (shaped the-args.self _ c.well_formed.0) o.0 o.1 the-args.id c.in-Some.i f.0 f.1 f.2 (rw (← is)
    (omega (arith, c.if-v-eq0.false))) _ (rw is at c.to_do.ensures)))
