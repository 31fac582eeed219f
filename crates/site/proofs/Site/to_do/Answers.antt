-- `Site::to_do` meets its contract: the sum so far and what the rest of the queue comes to are what the whole comes to. Assumes nothing.
use Prim.Native.Nat.{ℕ, ◌+◌, ◌-◌, ◌*◌, ◌<◌, ◌≤◌}
use mathlib.Core.Logic.{◌⊎◌, inl, inr}
use mathlib.Core.List.{List}
use Rattle.slots.specs.declared.Slot.{Slot}
use mathlib.Core.Path.{◌≡◌, subst, ◌∙◌}
use native.Mathlib.Omega.{arith}
use lib.ListN.{drop, get_or}
use Rattle.site.specs.Held.{store}
use Rattle.site.proofs.Shape.{shaped}
use Rattle.slots.specs.Meaning.{slot_at}
use Rattle.plain.specs.Queue as Q
use Rattle.store.specs.Meaning.{len_of, queue_of}
use Rattle.store.specs.Steps.{left_at}
use Rattle.store.proofs.Counting.{at_most_7, takes_ops, takes_one, counts_here, counts_on, counts_end}
use Rattle.site.proofs.Site.to_do.Goals as goal
use Rattle.site.proofs.Site.to_do.Goals.{else-b-lt-SLOT_LIMIT, then-b-lt-SLOT_LIMIT}

-- the sum with what this turn's place takes
more : (l : List Slot) (b w w' : ℕ) → ((b < 128) × (w' ≡ w + ((slot_at l b).count - (slot_at l b).done))) ⊎ ((128 ≤ b) × (w' ≡ w + 1)) → w' ≡ w + left_at l b
more l b w w' (inl h) = h.1 ∙ takes_ops l b w h.0
more l b w w' (inr h) = h.1 ∙ takes_one l b w h.0

pub returns-then-i-s : goal.returns-then-i-s
returns-then-i-s c =
    let k = c.args.c in
    let p = c.loop-p.p in
    let m = c.requires in
    let w = shaped c.args.self _ c.well_formed.0 in
    let e = more c.args.self.slots (get_or c.args.self.queue (136 * k + p) 0) c.loop-p.w c.if-b-lt-SLOT_LIMIT.w
    (elim c.if-b-lt-SLOT_LIMIT.branch [ then-b-lt-SLOT_LIMIT z ↦ inl (z.if-b-lt-SLOT_LIMIT.true, z.w-is) | else-b-lt-SLOT_LIMIT z ↦ inr (z.if-b-lt-SLOT_LIMIT.false, z.w-is) ]) in
    omega (arith, c.loop-p.invariant.1, counts_here (store c.args.self) w k c.args.s m.0 m.1 m.2 p c.loop-p-test.true c.if-i-s.true)

pub loop-p-preserved : goal.loop-p-preserved
loop-p-preserved c =
    let k = c.args.c in
    let p = c.loop-p.p in
    let m = c.requires in
    let w = shaped c.args.self _ c.well_formed.0 in
    let e = more c.args.self.slots (get_or c.args.self.queue (136 * k + p) 0) c.loop-p.w c.if-b-lt-SLOT_LIMIT.w
    (elim c.if-b-lt-SLOT_LIMIT.branch [ then-b-lt-SLOT_LIMIT z ↦ inl (z.if-b-lt-SLOT_LIMIT.true, z.w-is) | else-b-lt-SLOT_LIMIT z ↦ inr (z.if-b-lt-SLOT_LIMIT.false, z.w-is) ]) in (
      omega (arith, c.loop-p.invariant.0, at_most_7 (store c.args.self) w k c.args.s m.0 m.1 m.2 p c.loop-p-test.true),
      omega (arith, c.loop-p.invariant.1, counts_on (store c.args.self) w k c.args.s m.0 m.1 m.2 p c.loop-p-test.true c.if-i-s.false),
    )

pub returns : goal.returns
returns c =
    let k = c.args.c in
    let p = c.loop-p.p in
    let m = c.requires in
    let s = store c.args.self in
    let e : len_of s k ≡ p = omega (arith, c.loop-p.invariant.0, c.loop-p-test.false) in
    let z = subst (λ (n : ℕ). Q.up_to (Q.id_is (slot_at s.slots c.args.s).id) (drop n (queue_of s k)) ≡ 0) e
    (counts_end s (shaped _ _ c.well_formed.0) k c.args.s m.0 m.1 m.2) in
    omega (arith, c.loop-p.invariant.1)
