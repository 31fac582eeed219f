-- `Site::confirm_later` meets its contract: the head stays, or is put back, the request moves forward, and the class's sum is W. Assumes nothing.
use mathlib.Core.Logic.{inl, inr}
use mathlib.Core.Path.{ap, refl}
use native.Mathlib.Omega.{arith}
use Rattle.site.specs.Held.{store, state_of}
use Rattle.site.proofs.Shape.{shaped}
use Rattle.store.specs.Store.{Store}
use Rattle.site.proofs.Confirmation.{small_sum, done_within, head_waits, may_back, sum_may_back, within, put_back_did, stayed_did}
use Rattle.site.proofs.Site.confirm_later.Goals as goal
use Rattle.site.proofs.Site.confirm_later.Goals.{else-first-i, then-first-i+else-to-eq0}

pub overflow_sub-left : goal.overflow_sub-left
overflow_sub-left c =
    let m = c.requires in
    done_within (state_of c.args.self c.args.committed.now c.args.working.now) (shaped _ _ c.well_formed.0) c.args.i m.confirmable.0 c.args.from m.place_of.0

pub overflow_add-w : goal.overflow_add-w
overflow_add-w c =
    let few = small_sum (state_of c.args.self c.args.committed.now c.args.working.now) (shaped _ _ c.well_formed.0) c.args.i c.requires.confirmable.0 in
    record { fits = omega (arith, few.0, few.1) }

pub put_back-self-requires : goal.put_back-self-requires
put_back-self-requires c =
    let m = c.requires in
    let p = m.place_of in
    let x = state_of c.args.self c.args.committed.now c.args.working.now in
    let w = shaped _ _ c.well_formed.0 in
    let waits = head_waits x w c.args.i m.confirmable.0 c.args.to p.1 c.if-to-eq0.true in
    sum_may_back x w c.args.i m.confirmable.0 c.args.from c.args.to p.0 p.1 _ refl
    (may_back x w c.args.i m.confirmable.0 (omega (arith, c.well_formed.0)) waits.0)

pub forward-self-requires : goal.forward-self-requires
forward-self-requires c =
    let m = c.requires in
    let k = within (state_of c.args.self c.args.committed.now c.args.working.now) (shaped _ _ c.well_formed.0) c.args.i m.confirmable.0
    c.args.from c.args.to m.place_of.0 m.place_of.1 in
    (k.0, k.1, k.2, k.3, omega (arith, ap (λ (z : Store). z.confirmations) c.put_back-self.ensures.is, m.confirmable.0.more))

pub returns-then-to-eq0 : goal.returns-then-to-eq0
returns-then-to-eq0 c =
    let m = c.requires in
    let back = c.put_back-self in
    let moved = c.forward-self in
    put_back_did (state_of c.args.self c.args.committed.now c.args.working.now) (shaped _ _ c.well_formed.0) c.args.i m.confirmable.0 c.args.from c.args.to
    m.place_of.0 m.place_of.1 _ refl c.if-first-i.true c.if-to-eq0.true (store back.result) _ back.ensures (store moved.result) moved.ensures

pub forward-self-requires-2 : goal.forward-self-requires-2
forward-self-requires-2 c =
    let m = c.requires in
    let k = within (state_of c.args.self c.args.committed.now c.args.working.now) (shaped _ _ c.well_formed.0) c.args.i m.confirmable.0
    c.args.from c.args.to m.place_of.0 m.place_of.1 in
    (k.0, k.1, k.2, k.3, m.confirmable.0.more)

pub returns : goal.returns
returns c =
    let m = c.requires in
    let moved = c.forward-self-2 in
    stayed_did (state_of c.args.self c.args.committed.now c.args.working.now) (shaped _ _ c.well_formed.0) c.args.i m.confirmable.0 c.args.from c.args.to
    m.place_of.0 m.place_of.1 _ refl m.confirmable.1
    (elim c.if-first-i.branch [ then-first-i+else-to-eq0 z ↦ inr (z.if-first-i.true, z.if-to-eq0.false) | else-first-i z ↦ inl z.if-first-i.false ])
    (store moved.result) moved.ensures
