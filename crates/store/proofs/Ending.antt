-- The end of the confirmed part of a class on a sound site: all behind it wait; and the sum that stands with the class has the bound of W, and is the W
-- of the request that ends the part. Assumes nothing.
use Prim.Native.Nat.{ℕ, zero, suc, ◌+◌, ◌*◌, ◌-◌, ◌<◌, ◌≤◌}
use native.Mathlib.Omega.{arith}
use mathlib.Core.Path.{◌≡◌, refl, sym, ap, ◌∙◌, subst}
use mathlib.Core.Logic.{inl, inr}
use mathlib.Core.Bool.{false}
use mathlib.Core.List.{List, [], ◌∷◌, ◌++◌}
use lib.Dec.{ltb}
use lib.ListN.{length, get_or, take, drop, length-map, take-append-drop}
use lib.Seq.{drop-length}
use borrow.Author.Tests.{eq-eqb, lt-ltb, le-ltb, ltb-true, ltb-false}
use Rattle.plain.specs.Sizes.{most_w}
use Rattle.plain.specs.Queue as Q
use Rattle.plain.specs.Sound.{All, InOrder, SoundSite, Waiting}
use Rattle.plain.proofs.Tests.{by_test, no}
use Rattle.plain.proofs.Items.{follows_confirmed, waiting_unconfirmed}
use Rattle.plain.proofs.Costs.{NextWaits, part_ends, w_is_kept, kept_bounded}
use Rattle.queries.specs.declared.Query.{Query}
use Rattle.slots.specs.declared.Slot.{Slot}
use Rattle.slots.specs.Meaning.{entry_of, slot_at}
use Rattle.store.specs.Calls.{RightCells, SoundState, State, plain_of}
use Rattle.store.specs.Meaning.{item_at, items, len_of, places, plain, plain_class, queue_of}
use Rattle.store.specs.Steps.{EndsPart, Passed, WaitingLast}
use Rattle.store.specs.Store.{Shaped, Store}
use Rattle.store.proofs.Canonical.{places_length, slot_item}
use Rattle.store.proofs.Counting.{countable, next_is}
use Rattle.store.proofs.Meant.{to_plain}
use Rattle.store.proofs.Walk.{place_at}

-- a place that names a waiting request
module _ (l : List Slot) (qs : List Query) where
  abbrev Named : ℕ → Type 0
  Named p = (p < 128) × ((slot_at l p).number ≡ 0)

  named_waits : (p : ℕ) → Named p → Q.is_confirmed (item_at l qs p) ≡ false
  named_waits p n = rw (lt-ltb p 128 n.0) (le-ltb 0 (slot_at l p).number (omega (arith, n.1)))

  waits_named : (p : ℕ) → Waiting (item_at l qs p) → Named p
  waits_named p h = by_test (ltb p 128)
      (λ t. (ltb-true p 128 t, rw t at h))
      (λ f. no _ refl (rw f at (waiting_unconfirmed (item_at l qs p) h)))

  all_named : (ps : List ℕ) (k : ℕ) → k < length ps → All Waiting (items l qs ps) → Named (get_or ps k 0)
  all_named [] k u h = absurd (omega arith)
  all_named (p ∷ ps) zero u h = waits_named p h.0
  all_named (p ∷ ps) (suc k) u h = all_named ps k (omega arith) h.1

  -- in a queue in order
  named_last : (m top : ℕ) (ps : List ℕ) → InOrder m top (items l qs ps) → (j k : ℕ) → j < k → k < length ps → Named (get_or ps j 0) → Named (get_or ps k 0)
  named_last m top [] o j k a u h = absurd (omega arith)
  named_last m top (p ∷ ps) o j zero a u h = absurd (omega arith)
  named_last m top (p ∷ ps) (inr o) j (suc k) a u h = all_named ps k (omega arith) o.1
  named_last m top (p ∷ ps) (inl o) zero (suc k) a u h = no _ (follows_confirmed m (item_at l qs p) o.0) (named_waits p h)
  named_last m top (p ∷ ps) (inl o) (suc j) (suc k) a u h = named_last (Q.line (item_at l qs p)) top ps o.2 j k (omega arith) (omega arith) h

-- where all behind a waiting one wait, none before one that does not wait does
module _ (s : Store) (c : ℕ) (last : WaitingLast s c) (p : ℕ) (u : p < len_of s c) (h : Passed s c p) where
  abbrev b : ℕ → ℕ
  b j = get_or s.queue (136 * c + j) 0

  not_both : Named s.slots s.queries (b p) → Passed s c p → ⊥
  not_both n (inl z) = omega (arith, n.0)
  not_both n (inr z) = omega (arith, n.1)

  pub none_before : (k : ℕ) → k < p + 1 → Passed s c k
  none_before k l = by_test (ltb k p)
      (λ t. by_test (ltb (b k) 128)
      (λ v. by_test (ltb 0 (slot_at s.slots (b k)).number)
      (λ z. inr (ltb-true 0 _ z))
      (λ z. absurd (not_both (last k p (ltb-true k p t) u (ltb-true (b k) 128 v, omega (arith, ltb-false 0 (slot_at s.slots (b k)).number z))) h)))
      (λ v. inl (ltb-false (b k) 128 v)))
      (λ f. let e : k ≡ p = omega (arith, ltb-false k p f) in subst (Passed s c) (sym e) h)

module _ (x : State) (w : Shaped x.site) (r : RightCells x) (q : SoundState x) (c : ℕ) (l : c < 16) where
  abbrev s : Store
  s = x.site

  sound : SoundSite (plain_of x)
  sound = to_plain x.site w.slots w.queries q.laid x.committed x.working q

  in_place : (a : ℕ) → a < len_of s c → get_or (places s c) a 0 ≡ get_or s.queue (136 * c + a) 0
  in_place a u = place_at s w c l (q.laid.not_longer_than_136 c l) a u

  -- all behind a waiting one wait
  pub waiting_last : WaitingLast s c
  waiting_last j k a u h =
      rw (in_place k u) at (named_last s.slots s.queries 0 s.confirmations (places s c) (q.confirmed_before_waiting c l) j k a
      (omega (arith, places_length s w q.laid c l)) (rw (in_place j (omega arith)) h))

  -- the sum is at most the greatest W
  pub sum_bounded : get_or s.sums c 0 ≤ most_w
  unfolding plain plain_class
  sum_bounded = omega (arith, q.sums_right c l, kept_bounded (plain_of x) sound c l)

  -- THE REQUEST in slot i, confirmed, that ends the confirmed part
  module _ (i : ℕ) (small : i < 128) (some_id : 0 < (slot_at s.slots i).id) (confirmed : 0 < (slot_at s.slots i).number) (e : EndsPart s c i) where
    abbrev p : ℕ
    p = e.until - 1

    next : suc p ≡ e.until
    next = omega (arith, e.some)

    within : p < len_of s c
    within = omega (arith, e.some, e.first.within)

    abbrev queue : List Q.Item
    queue = queue_of x.site c

    abbrev own : Q.Item
    own = Q.booking (entry_of i (slot_at x.site.slots i))

    long : length queue ≡ len_of s c
    long = length-map (places s c) (item_at s.slots s.queries) ∙ places_length s w q.laid c l

    -- what the queue goes on with at a place
    on : (k : ℕ) → k < len_of s c → drop k queue ≡ item_at s.slots s.queries (get_or s.queue (136 * c + k) 0) ∷ drop (suc k) queue
    on k u = next_is s w c i (countable x w r q c l) small some_id k u

    split : queue ≡ take p queue ++ own ∷ drop (suc p) queue
    split =
        sym (take-append-drop p queue)
        ∙ ap (λ (z : List Q.Item). take p queue ++ z)
        (on p within ∙ ap (λ (z : Q.Item). z ∷ drop (suc p) queue) (ap (item_at s.slots s.queries) e.is ∙ slot_item s.slots s.queries i small))

    behind : NextWaits (drop (suc p) queue)
    behind =
        by_test (ltb (suc p) (len_of s c))
        (λ t. let u = ltb-true (suc p) (len_of s c) t in
        let n = rw (← next) at (e.first.waits (omega (arith, next))) in
        subst NextWaits (sym (on (suc p) u)) (rw (lt-ltb _ 128 n.0) (le-ltb 0 (slot_at s.slots (get_or s.queue (136 * c + suc p) 0)).number (omega (arith, n.1)))))
        (λ f. let n : suc p ≡ length queue = omega (arith, long, within, ltb-false (suc p) (len_of s c) f) in
        subst NextWaits (sym (ap (λ (k : ℕ). drop k queue) n ∙ drop-length queue)) tt)

    part : Q.confirmed_part queue ≡ take p queue ++ (own ∷ [])
    part =
        ap Q.confirmed_part split
        ∙ part_ends 0 s.confirmations (take p queue) own (drop (suc p) queue) (subst (InOrder 0 s.confirmations) split (q.confirmed_before_waiting c l))
        (lt-ltb 0 (slot_at s.slots i).number confirmed) behind

    pub sum_is_w : get_or s.sums c 0 ≡ Q.owed (slot_at s.slots i).id (queue_of s c)
    unfolding plain plain_class
    sum_is_w = q.sums_right c l ∙ sym (w_is_kept (plain_of x) sound c l (slot_at s.slots i).id (take p queue) own part (eq-eqb (slot_at s.slots i).id _ refl))
