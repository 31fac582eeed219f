-- `Site::query` meets its contract: refused as it was judged; or each turn puts a waiting head back and lets the entry in before the waiting. Assumes
-- nothing.
use borrow.Author.Rules.{rules}
use Prim.Native.Nat.{ℕ, ◌+◌, ◌<◌, ◌^◌}
use mathlib.Core.Path.{◌≡◌, refl, sym, ap, ◌∙◌}
use mathlib.Core.Logic.{inl, inr}
use mathlib.Core.Bool.{true}
use mathlib.Core.List.{List}
use native.Mathlib.Omega.{arith}
use lib.ListN.{get_or, set}
use Rattle.plain.specs.Site.{named}
use Rattle.site.specs.Held.{store, state_of}
use Rattle.site.specs.declared.Site.{Site}
use Rattle.site.proofs.Shape.{shaped}
use Rattle.site.proofs.Ways.{carried, on_sound}
use Rattle.store.specs.Steps.{with_slot, head_slot, with_entry}
use Rattle.store.proofs.Begins.{counted, start, begun_is}
use Rattle.store.proofs.Commit.{copied, uncopied}
use Rattle.store.proofs.Turns.{Going, Put, room_here, to_fits, may_back, put_none, put_head, skipped, turned}
use Rattle.site.proofs.Site.query.Goals as goal
use Rattle.site.proofs.Site.query.Goals.{then-names, then-to-eq0+then-len-ne0, else-to-eq0, else-names}

pub loop-c-init : goal.loop-c-init
loop-c-init c =
    let m = c.in-Ok.ensures.0 in
    let small : c.args.mask < 2 ^ 16 = search rules in
    start (state_of c.args.self c.args.committed.now c.args.working.now) (shaped _ _ c.well_formed.0) m.right m.sound c.args.mask small
    m.some m.free m.more c.firsts_waiting-firsts.result c.in-Ok.p c.in-Ok.ensures.1 (omega (arith, c.well_formed.0)) c.firsts_waiting-firsts.ensures

pub bounds-self-i : goal.bounds-self-i
bounds-self-i c =
    (may_back c.loop-c.invariant c.loop-c-test.true (sym c.names.ensures ∙ c.if-names.true) c.if-to-eq0.true c.if-len-ne0.true).request

pub backed-requires : goal.backed-requires
backed-requires c =
    (may_back c.loop-c.invariant c.loop-c-test.true (sym c.names.ensures ∙ c.if-names.true) c.if-to-eq0.true c.if-len-ne0.true).fits

pub bounds-self-c-then-names-2 : goal.bounds-self-c-then-names-2
bounds-self-c-then-names-2 c =
    omega (arith, room_here c.loop-c.invariant c.loop-c-test.true (sym c.names.ensures ∙ c.if-names.true))

pub move_forward-requires : goal.move_forward-requires
move_forward-requires c =
    let g = c.loop-c.invariant in
    let l = c.loop-c-test.true in
    let here = sym c.names.ensures ∙ c.if-names.true in
    (to_fits g l here, room_here g l here, l)

-- a class that is named: its head as it was or put back, and the entry in; or one that is not
pub loop-c-preserved : goal.loop-c-preserved
loop-c-preserved c =
    let k = c.loop-c.c in
    let g = c.loop-c.invariant in
    let l = c.loop-c-test.true in
    let base = c.args.committed.now in
    let wrk = c.loop-c.working in
    let Next : Site → List ℕ → Type 0 =
    λ s v. Going (counted (store c.args.self)) (store s) base c.args.working.now v c.args.mask c.in-Ok.p
    c.args.self.confirmations (k + 1) c.firsts_waiting-firsts.result in
    elim c.if-names.branch [
      | then-names z ↦
          let here : named c.args.mask k ≡ true = sym c.names.ensures ∙ z.if-names.true in
          let Head : Site → List ℕ → Type 0 = λ s v. Put g l here (store s) v in
          let head : Head z.if-to-eq0.self z.if-to-eq0.working = elim z.if-to-eq0.branch [
            | then-to-eq0+then-len-ne0 y ↦ carried Head y.self-is y.working-is (put_head g l here y.if-to-eq0.true y.if-len-ne0.true _ _ (record {
              is = ap (with_slot (store c.loop-c.self) (head_slot (store c.loop-c.self) k)) y.backed.ensures;
              cells = y.copy_class.auto.to ∙ g.cells;
              own = copied wrk base y.copy_class.new.to k l g.cells g.right y.copy_class.ensures;
              others = uncopied wrk base y.copy_class.new.to k l g.cells g.right y.copy_class.ensures;
            }))
            | else-to-eq0 y ↦ carried Head y.self-is y.working-is (put_none g l here (elim y.else-to-eq0.either [ inl n ↦ inr n.1 | inr n ↦ inl n ]))
          ] in
          carried Next z.self-is z.working-is (turned g l here (store z.if-to-eq0.self) z.if-to-eq0.working head _ z.with.result
          (record {
            queue = z.move_forward.ensures;
            lens = refl;
            queries = refl;
            slots = refl;
            map_same = (refl, refl);
            counts = (refl, refl, refl);
            kept = refl;
            sums = ap (λ (r : List ℕ). set z.if-to-eq0.self.sums k (with_entry (get_or r k 0))) (sym head.settled.sums);
          })
          z.with.ensures.0 (z.with.ensures.1 ∙ head.settled.counts.0 ∙ g.upto.counts.0) z.with.type_inv.1.1.0.1)
      | else-names z ↦ carried Next z.self-is z.working-is (skipped g (sym c.names.ensures ∙ z.if-names.false))
    ]

pub returns-after-loop-c : goal.returns-after-loop-c
returns-after-loop-c c =
    let m = c.in-Ok.ensures.0 in
    let end = c.loop-c in
    let small : c.args.mask < 2 ^ 16 = search rules in
    on_sound c.well_formed.0 (m.right, m.sound) (λ w r q. begun_is _ w r q c.args.mask small m.some m.free m.more c.firsts_waiting-firsts.result
    c.in-Ok.p c.in-Ok.ensures.1 (store end.self) end.working end.c (omega arith) (omega arith) end.invariant)
