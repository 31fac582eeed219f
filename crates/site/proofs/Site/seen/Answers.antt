-- `Site::seen` meets its contract: all before the partition point are passed, and at it one waits, or the queue ends; so the slot before it ends the
-- confirmed part. Assumes nothing.
use Rattle.std.proofs.Common.{ℕ, ◌+◌, ◌*◌, ◌-◌, ◌<◌, ◌≤◌, ◌≡◌, ◌||◌, Bool, true, false, List, length, leb, ltb, le-leb, lt-ltb, ltb-true, ltb-false, leb-true, leb-false, get_or, inl, inr, refl, sym, ◌∙◌, arith, rules, of_calls}
use Rattle.std.specs.List.{between}
use Rattle.std.specs.List.Sorted.{IsPartitionPoint, IsPartitionedBy}
use Rattle.std.proofs.lemmas.List.{get_or_default}
use Rattle.std.proofs.lemmas.List.Edits.{length-between, get_or-between}
use Rattle.std.proofs.lemmas.List.Sorted.{IsPartitionPoint-from_clause}
use Rattle.plain.proofs.Tests.{by_test, or_left, or_right}
use Rattle.slots.specs.declared.Slot.{Slot}
use Rattle.slots.specs.Meaning.{slot_at}
use Rattle.store.specs.Meaning.{len_of}
use Rattle.store.specs.Steps.{FirstWaiting, Passed, WaitingLast}
use Rattle.store.specs.Store.{Store}
use Rattle.store.proofs.Ending.{none_before}
use Rattle.site.specs.Held.{store}
use Rattle.site.proofs.Shape.{shaped}
use Rattle.site.proofs.Site.seen.Goals as goal

-- what the search asks of an entry of the queue
abbrev passes : List Slot → ℕ → Bool
passes l b = leb 128 b || ltb 0 (slot_at l b).number

module _ (s : Store) (k : ℕ) (within : 136 * k + len_of s k ≤ length s.queue) where
  abbrev part : List ℕ
  part = between (136 * k) (136 * k + len_of s k) s.queue

  long : length part ≡ len_of s k
  long = length-between s.queue (136 * k) (136 * k + len_of s k) within ∙ omega arith

  at : (j d : ℕ) → j < len_of s k → get_or part j d ≡ get_or s.queue (136 * k + j) 0
  at j d u = get_or-between s.queue (136 * k) (136 * k + len_of s k) j d (omega (arith, u)) ∙ get_or_default s.queue (136 * k + j) d 0 (omega (arith, u, within))

  passed : (j d : ℕ) → j < len_of s k → passes s.slots (get_or part j d) ≡ true → Passed s k j
  passed j d u h =
      let b = get_or s.queue (136 * k + j) 0 in
      let h· : passes s.slots b ≡ true = rw (at j d u) at h in
      by_test (leb 128 b) (λ t. inl (leb-true 128 b t)) (λ f. inr (ltb-true 0 (slot_at s.slots b).number (rw f at h·)))

  parted : WaitingLast s k → IsPartitionedBy (passes s.slots) part
  parted last i j d l u h =
      let v : j < len_of s k = omega (arith, long, u) in
      rw (at i d (omega (arith, l, v))) (elim (none_before s k last j v (passed j d v h) i (omega (arith, l))) [
        | inl n ↦ rw (le-leb 128 (get_or s.queue (136 * k + i) 0) n) refl
        | inr n ↦ by_test (leb 128 (get_or s.queue (136 * k + i) 0)) (λ t. rw t refl) (λ f. rw (f, lt-ltb 0 (slot_at s.slots (get_or s.queue (136 * k + i) 0)).number n) refl)
      ])

  first : (n : ℕ) → n ≤ length part
      → IsPartitionPoint (λ y. passes s.slots y ≡ true) (λ y. passes s.slots y ≡ false) part n → FirstWaiting s k n
  first n u point = record {
    within = omega (arith, long, u);
    before = λ j l. passed j 0 (omega (arith, long, u, l)) (point.0 j 0 (omega arith) l);
    waits = λ l.
        let h = rw (at n 0 l) at (point.1 n 0 (omega arith) (omega (arith, long, l))) in
        let b = get_or s.queue (136 * k + n) 0 in
        let f = or_left (leb 128 b) (ltb 0 (slot_at s.slots b).number) h in
        (omega (arith, leb-false 128 b f), omega (arith, ltb-false 0 (slot_at s.slots b).number (or_right (leb 128 b) (ltb 0 (slot_at s.slots b).number) h)));
  }

pub returns : goal.returns
returns c =
    let the-args = c.args in
    let s = store the-args.self in
    let k· = (slot_at the-args.self.slots the-args.i).class in
    let pre· = c.requires in
    let r· = c.partition_point-behind in
    let within : 136 * k· + len_of s k· ≤ length s.queue = omega (arith, (shaped the-args.self _ c.well_formed.0).queue, pre·.2, pre·.0.not_longer_than_136 _ pre·.2) in
    let point = IsPartitionPoint-from_clause (passes the-args.self.slots) _ _ r·.ensures.partitioned (parted s k· within pre·.3) (λ a r q k. search (rules, of_calls)) in
    let some· : 0 < r·.result = omega (arith, c.if-behind-eq0.false) in
    let n· : r·.result - 1 < len_of s k· = omega (arith, long s k· within, r·.ensures.bound, some·) in
    (refl, (refl, record { until = r·.result; first = first s k· within r·.result r·.ensures.bound point; some = some·; is = sym (at s k· within (r·.result - 1) 0 n·) ∙ c.if-queue-behind.false }))
