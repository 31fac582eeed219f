-- `Site::work_head` meets its contract: an entry leaves its queue and its query; or the head's slot takes its step on the cells lent to it, and stays, or
-- commits. Assumes nothing.
use native.Mathlib.Omega.{arith}
use mathlib.Core.Path.{◌≡◌, refl, sym, subst}
use mathlib.Core.List.{List}
use lib.Dec.{ltb}
use Prim.Native.Nat.{ℕ, ◌-◌, ◌<◌}
use borrow.Author.Tests.{ltb-true, ltb-false}
use Rattle.plain.specs.Site.{work}
use Rattle.plain.proofs.Tests.{by_test}
use Rattle.site.specs.Held.{state_of, answer_of, MayWork}
use Rattle.site.specs.declared.Site.{Site}
use Rattle.site.specs.declared.Answer.{Answer}
use Rattle.site.proofs.Shape.{shaped}
use Rattle.slots.specs.Meaning.{slot_at}
use Rattle.store.specs.Store.{Shaped}
use Rattle.store.specs.Calls.{State, Did}
use Rattle.store.specs.Meaning.{cells_of}
use Rattle.store.specs.Steps.{head_slot}
use Rattle.store.proofs.Cells.{lent_long, lent_is}
use Rattle.store.proofs.Read.{entry_small, read_as}
use Rattle.store.proofs.Work.{head_held, marked, work_left, stepped_as, executed_as, may_commit, committed_as}
use Rattle.site.proofs.Site.work_head.Goals as goal
use Rattle.site.proofs.Site.work_head.Goals.{else-commits, then-commits}

-- where the ways meet, a site, committed cells and an answer that are equal to those of one way
met : {x : State} (c : ℕ) (w : List ℕ) {a a' : Answer} {s s' : Site} {b b' : List ℕ} → s ≡ s' → b ≡ b' → a ≡ a'
    → Did x (work c) (state_of s' b' w) (answer_of a' (cells_of b' c)) → Did x (work c) (state_of s b w) (answer_of a (cells_of b c))
met {x} c w {a} {s = s} {s' = s'} {b' = b'} p q e h =
    subst (λ (b : List ℕ). Did x (work c) (state_of s b w) (answer_of a (cells_of b c))) (sym q)
    (subst (λ (s : Site). Did x (work c) (state_of s b' w) (answer_of a (cells_of b' c))) (sym p)
    (subst (λ (a : Answer). Did x (work c) (state_of s' b' w) (answer_of a (cells_of b' c))) (sym e) h))

module _ (x : State) (w : Shaped x.site) (c : ℕ) (m : MayWork x c) where
  -- a head that is an entry is of one of the 8 queries
  query_small : head_slot x.site c - 128 < 8
  query_small = omega (arith, entry_small x.site w m.sound.laid c m.class m.some)

  -- a head that is a request has an operation left
  left : head_slot x.site c < 128 → (slot_at x.site.slots (head_slot x.site c)).done < (slot_at x.site.slots (head_slot x.site c)).count
  left i = work_left x w m.right m.sound c m.class m.some i (m.unfinished i)

pub bounds-self-p : goal.bounds-self-p
bounds-self-p c = query_small (state_of c.args.self c.args.committed.now c.args.working.now) (shaped _ _ c.well_formed.0) _ c.requires

pub bounds-self-p-then-s-ge-SLOT_LIMIT : goal.bounds-self-p-then-s-ge-SLOT_LIMIT
bounds-self-p-then-s-ge-SLOT_LIMIT c = query_small (state_of c.args.self c.args.committed.now c.args.working.now) (shaped _ _ c.well_formed.0) _ c.requires

pub returns-then-s-ge-SLOT_LIMIT : goal.returns-then-s-ge-SLOT_LIMIT
returns-then-s-ge-SLOT_LIMIT c =
    let m = c.requires in
    let q = c.without in
    let t = c.take_head in
    let big = c.if-s-ge-SLOT_LIMIT.true in
    read_as _ (shaped _ _ c.well_formed.0) m.right m.sound c.args.c m.class m.some big _ q.result q.ensures.0 q.ensures.1
    refl refl t.ensures.own t.ensures.others refl (refl, refl) (refl, refl, refl) refl c.one_less.result c.one_less.ensures refl _ (omega (arith, big))

pub step-u-requires : goal.step-u-requires
step-u-requires c =
    let m = c.requires in
    let x = state_of c.args.self c.args.committed.now c.args.working.now in
    let w = shaped _ _ c.well_formed.0 in
    let k = c.args.c in
    let i = c.if-s-ge-SLOT_LIMIT.false in (
      lent_long _ k m.right.0 m.class,
      lent_long _ k m.right.1 m.class,
      head_held x w m.right m.sound k m.class m.some i,
      left x w k m i,
      rw (lent_is, lent_is) (marked x w m.right m.sound k m.class m.some i),
    )

pub commit-self-requires : goal.commit-self-requires
commit-self-requires c =
    let m = c.requires in
    let x = state_of c.args.self c.args.committed.now c.args.working.now in
    let w = shaped _ _ c.well_formed.0 in
    let k = c.args.c in
    let i = c.if-s-ge-SLOT_LIMIT.false in
    let u = c.step-u in
    let less = c.one_less-2 in
    may_commit x w m.right m.sound k m.class m.some i (left x w k m i) u.result _ u.auto.cells u.ensures less.result less.ensures
    (c.commits.ensures.yes c.if-commits.true).1 (omega (arith, c.well_formed.0))

pub returns : goal.returns
returns c =
    let m = c.requires in
    let x = state_of c.args.self c.args.committed.now c.args.working.now in
    let w = shaped _ _ c.well_formed.0 in
    let k = c.args.c in
    let i = c.if-s-ge-SLOT_LIMIT.false in
    let u = c.step-u in
    let v = u.result in
    let less = c.one_less-2 in
    let a = c.worked.ensures in
    elim c.if-commits.branch [
      | then-commits y ↦
          let e = c.commits.ensures.yes y.if-commits.true in
          met k _ y.self-is y.committed-is (a.committed e.0 e.1)
          (committed_as x w m.right m.sound k m.class m.some i (left x w k m i) v _ u.auto.cells u.ensures less.result less.ensures e.0 e.1 _ _ y.commit-self.ensures)
      | else-commits y ↦ by_test (ltb v.done v.count)
          (λ t.
          let l = ltb-true v.done v.count t in
          met k _ y.self-is y.committed-is (a.left l)
          (stepped_as x w m.right m.sound k m.class m.some i (left x w k m i) v _ u.auto.cells u.ensures less.result less.ensures l))
          (λ f.
          let g = ltb-false v.done v.count f in
          let n : v.number ≡ 0 = by_test (ltb 0 v.number)
          (λ t. absurd (c.commits.ensures.no y.if-commits.false (g, ltb-true 0 v.number t)))
          (λ u. omega (arith, ltb-false 0 v.number u)) in
          met k _ y.self-is y.committed-is (a.executed g n)
          (executed_as x w m.right m.sound k m.class m.some i (left x w k m i) v _ u.auto.cells u.ensures less.result less.ensures g n))
    ]
