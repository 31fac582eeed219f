-- Confirm on a sound site, of a request that does not commit at once: it is numbered and moves forward, another waiting head being put back.
-- Assumes nothing.
use Prim.Native.Nat.{ℕ, zero, suc, ◌+◌, ◌*◌, ◌<◌, ◌≤◌}
use native.Mathlib.Omega.{arith}
use mathlib.Core.Path.{◌≡◌, refl, sym, ap, ◌∙◌, subst}
use mathlib.Core.Logic.{◌⊎◌, inl, inr}
use mathlib.Core.Bool.{true, false, and-false}
use mathlib.Core.Option.{some}
use mathlib.Core.List.{List, [], ◌∷◌}
use lib.Dec.{eqb, ltb}
use lib.ListN.{length, get_or, take, drop, set, length-set}
use lib.Seq.{get_or-set_same, get_or-set_other}
use borrow.Author.Tests.{eqb-true, eqb-false, eq-eqb, ne_eqb, lt-ltb, le-ltb, lt-leb, ltb-true, ltb-false}
use Rattle.plain.specs.Queue as Q
use Rattle.plain.specs.Steps as K
use Rattle.plain.specs.Site as S
use Rattle.plain.specs.Sound.{All, Waiting, InOrder, SoundSite}
use Rattle.plain.proofs.Tests.{by_test, no}
use Rattle.plain.proofs.Items.{follows_confirmed, waiting_unconfirmed}
use Rattle.plain.proofs.Queues.{waits_all}
use Rattle.slots.specs.declared.Slot.{Slot}
use Rattle.slots.specs.Meaning.{entry_of, is_used, slot_at}
use Rattle.slots.specs.Rules.{Holds}
use Rattle.queries.specs.declared.Query.{Query}
use Rattle.store.specs.Store.{Store, Shaped}
use Rattle.store.specs.Meaning.{len_of, places, item_at, items, queue_of, cells_of, plain, plain_class, Same}
use Rattle.store.specs.Sound.{times, Laid, Apart}
use Rattle.store.specs.Calls.{State, RightCells, SoundState, Did, plain_of}
use Rattle.store.specs.Steps.{with_slot, with_sums, head_slot, sum_with, as_put_back, PutBack, PlaceOf, FirstWaiting, Forward}
use Rattle.store.proofs.Canonical.{has_id, places_length, slot_item, slot_stands}
use Rattle.store.proofs.Walk.{place_at}
use Rattle.store.proofs.Relaid.{by_slot, elsewhere, items_kept}
use Rattle.store.proofs.Moving.{Confirmed}
use Rattle.store.proofs.Confirm.{back_queue, holds_kept}
use Rattle.store.proofs.Commit.{head_is, stands_class}
use Rattle.store.proofs.Promise.{sound_kept, same_trans}
use Rattle.store.proofs.Asked.{there, one_id}
use Rattle.store.proofs.Asking.{entry}
use Rattle.store.proofs.Confirming.{accepted, outcome, class_here, held}
use Rattle.store.proofs.Meant.{to_plain}
use Rattle.store.proofs.Summed.{wait_sum, wait_left}
use Rattle.store.proofs.Work.{kept_laid, laid_sums, same_in, head_held}
use Rattle.slots.proofs.Records.{ops_count}
use Rattle.store.proofs.Forward.{forward_laid, forward_means}

-- the confirmed part and the waiting part of a queue in order, by the first place that waits
pub split_order : (l : List Slot) (qs : List Query) (m top : ℕ) (ps : List ℕ) (to : ℕ) → InOrder m top (items l qs ps) → to ≤ length ps
    → ((k : ℕ) → k < to → (128 ≤ get_or ps k 0) ⊎ (0 < (slot_at l (get_or ps k 0)).number))
    → (to < length ps → (get_or ps to 0 < 128) × ((slot_at l (get_or ps to 0)).number ≡ 0))
    → All Confirmed (take to (items l qs ps)) × All Waiting (drop to (items l qs ps))
split_order l qs m top [] zero o h a b = (tt, tt)
split_order l qs m top [] (suc to) o h a b = absurd (omega arith)
split_order l qs m top (p ∷ ps) zero (inl o) h a b =
    let z = b (omega arith) in no _ (follows_confirmed m (item_at l qs p) o.0) (rw (lt-ltb p 128 z.0) (le-ltb 0 (slot_at l p).number (omega (arith, z.1))))
split_order l qs m top (p ∷ ps) zero (inr o) h a b = (tt, o)
split_order l qs m top (p ∷ ps) (suc to) (inl o) h a b =
    let r = split_order l qs (Q.line (item_at l qs p)) top ps to o.2 (omega arith) (λ k u. a (suc k) (omega arith)) (λ u. b (omega arith)) in
    ((follows_confirmed m (item_at l qs p) o.0, r.0), r.1)
split_order l qs m top (p ∷ ps) (suc to) (inr o) h a b = no _ (confirmed (a 0 (omega arith))) (waiting_unconfirmed (item_at l qs p) o.0)
  where
    confirmed : (128 ≤ p) ⊎ (0 < (slot_at l p).number) → Q.is_confirmed (item_at l qs p) ≡ true
    confirmed (inl z) = rw (le-ltb p 128 z)
    confirmed (inr z) = by_test (ltb p 128) (λ t. rw t (lt-ltb 0 (slot_at l p).number z)) (λ f. rw f)

-- a slot that takes another value of the same record leaves the shape
pub kept_shaped : (s : Store) → Shaped s → (i : ℕ) (u : Slot) → i < 128 → length u.ops ≡ 7 → u.id ≡ (slot_at s.slots i).id → Shaped (with_slot s i u)
kept_shaped s w i u m n e = record {
  slots = length-set s.slots i u ∙ w.slots;
  ops = by_slot s.slots i u inside (λ j v. j < 128 → length v.ops ≡ 7) (λ _. n) (λ j ne l. w.ops j l);
  ids = by_slot s.slots i u inside (λ j v. j < 128 → v.id < 4294967296) (λ l. rw e (w.ids i l)) (λ j ne l. w.ids j l);
  queue = w.queue;
  lens = w.lens;
  low = w.low;
  high = w.high;
  kept = w.kept;
  queries = w.queries;
  masks = w.masks;
  sums = w.sums;
}
  where
    inside : i < length s.slots
    inside = omega (arith, w.slots)

-- what is known of the request when it comes to moving
pub record Movable (x : State) (id n i from to : ℕ) : Type 0 where
  pub more : x.site.confirmations < 4294967295
  pub next : n ≡ x.site.confirmations + 1
  pub small : i < 128
  pub is : (slot_at x.site.slots i).id ≡ id
  pub positive : 0 < id
  pub waits : (slot_at x.site.slots i).number ≡ 0
  pub place : PlaceOf x.site (slot_at x.site.slots i).class i from
  pub first : FirstWaiting x.site (slot_at x.site.slots i).class to

module _ (x : State) (w : Shaped x.site) (r : RightCells x) (q : SoundState x) (id n i from to : ℕ) (f : Movable x id n i from to) where
  abbrev s : Store
  s = x.site

  abbrev base : List ℕ
  base = x.committed

  abbrev wrk : List ℕ
  wrk = x.working

  abbrev p : S.Site
  p = plain_of x

  abbrev k : S.Call
  k = S.confirm id n

  abbrev v : Slot
  v = slot_at x.site.slots i

  abbrev c : ℕ
  c = (slot_at x.site.slots i).class

  class_small : c < 16
  class_small = (class_here x w r q id n f.more f.next i f.small f.is f.positive).1

  holds : Holds v
  holds = held x w r q id n f.more f.next i f.small f.is f.positive f.waits

  in_place : (a : ℕ) → a < len_of s c → get_or (places s c) a 0 ≡ get_or s.queue (136 * c + a) 0
  in_place a u = place_at s w c class_small (q.laid.not_longer_than_136 c class_small) a u

  long : length (places s c) ≡ len_of s c
  long = places_length s w q.laid c class_small

  pub forward : to ≤ from
  forward = by_test (ltb from to)
      (λ t. absurd (waits_here (f.first.before from (ltb-true from to t))))
      (λ g. ltb-false from to g)
    where
      waits_here : (128 ≤ get_or s.queue (136 * c + from) 0) ⊎ (0 < (slot_at s.slots (get_or s.queue (136 * c + from) 0)).number) → ⊥
      waits_here (inl z) = omega (arith, f.place.is, f.small)
      waits_here (inr z) = omega (arith, ap (λ (j : ℕ). (slot_at s.slots j).number) f.place.is, f.waits)

  parts : All Confirmed (take to (queue_of s c)) × All Waiting (drop to (queue_of s c))
  parts = split_order s.slots s.queries 0 s.confirmations (places s c) to (q.confirmed_before_waiting c class_small) (omega (arith, long, f.first.within))
      (λ a u. rw (in_place a (omega (arith, f.first.within))) (f.first.before a u))
      (λ u. rw (in_place to (omega (arith, long))) (f.first.waits (omega (arith, long))))

  some_left : 0 < len_of s c
  some_left = omega (arith, f.place.within)

  -- the head of the queue
  abbrev hd : ℕ
  hd = head_slot x.site (slot_at x.site.slots i).class

  abbrev u : Slot
  u = slot_at x.site.slots (head_slot x.site (slot_at x.site.slots i).class)

  abbrev ps : List ℕ
  ps = drop 1 (places x.site (slot_at x.site.slots i).class)

  head_places : places s c ≡ hd ∷ ps
  head_places = head_is s w q.laid c class_small some_left

  -- what stands there: a request, or an entry of a query
  abbrev hi : Q.Item
  hi = item_at x.site.slots x.site.queries (head_slot x.site (slot_at x.site.slots i).class)

  head_queue : queue_of s c ≡ hi ∷ items s.slots s.queries ps
  head_queue = ap (items s.slots s.queries) head_places

  hd_holds : hd < 128 → Holds u
  hd_holds small = head_held x w r q c class_small some_left small

  -- another slot has another id, and an entry none
  other_id : (hd ≡ i → ⊥) → Q.id_is id hi ≡ false
  other_id ne =
      by_test (ltb hd 128)
      (λ t. let small = ltb-true hd 128 t in
      rw (t, ne_eqb u.id id (λ e. ne (one_id (λ j. (slot_at s.slots j).id) q.ids_differ hd i small f.small (has_id u (hd_holds small)) (e ∙ sym f.is)))))
      (λ g. rw g)

  called : S.call p k ≡ S.in_class p c (some id) (K.confirm_step id n (p.class c))
  called = outcome x w r q id n f.more f.next i f.small f.is f.positive f.waits

  -- what is answered once the step is known: W is the sum of the class with what the request still takes, and it is the class's new sum
  pub record Goes (t : Store) (wrk' : List ℕ) (back : ℕ) : Type 0 where
    pub answers : (W : ℕ) → W ≡ sum_with s c i
        → Did x k (record { site = with_sums t (set t.sums c W); committed = base; working = wrk' }) (K.waiting id W back)

  goes : (t : Store) (wrk' : List ℕ) (back : ℕ) (queue : List Q.Item) → length wrk' ≡ 1024 → length t.slots ≡ 128 → t.queries ≡ s.queries → t.sums ≡ s.sums → Laid t
      → K.confirm_step id n (p.class c) ≡ K.told id back queue (cells_of base c) (cells_of wrk' c)
      → Same (plain t base wrk') (S.in_class p c (some id) (K.told id back queue (cells_of base c) (cells_of wrk' c))).site
      → Goes t wrk' back
  goes t wrk' back queue n' m qs ss h step same = record {
    answers = λ W e. let says : (S.call p k).answer ≡ K.waiting id W back = rw o (ap (λ (z : ℕ). K.waiting id z back) (answered ∙ sym e)) in
        record {
          cells = (r.0, n');
          sound = sound_kept x (record { site = with_sums t (set t.sums c W); committed = base; working = wrk' }) k w m (ap length qs ∙ w.queries) q
              (laid_sums t (set t.sums c W) h) (same_sums W) (sums_right W says);
          site = same_sums W;
          answer = sym says;
        };
  }
    where
      o : S.call p k ≡ S.in_class p c (some id) (K.told id back queue (cells_of base c) (cells_of wrk' c))
      o = called ∙ ap (S.in_class p c (some id)) step

      class_is_c : S.class_of p id ≡ c
      class_is_c = (class_here x w r q id n f.more f.next i f.small f.is f.positive).0

      taken : S.accepts p k ≡ true
      taken = rw (accepted x w r q id n f.more f.next i f.small f.is f.positive f.waits)

      sound_p : SoundSite p
      sound_p = to_plain s w.slots w.queries q.laid base wrk q

      answered : Q.owed id queue ≡ sum_with s c i
      answered =
          wait_left p sound_p id n taken id (Q.owed id queue) back (rw o) (Q.booking (entry_of i v)) (rw class_is_c (unfold plain plain_class in (entry x w r q id i f.small f.is f.positive)))
          ∙ rw class_is_c (unfold plain plain_class in (rw (q.sums_right c class_small, ops_count v (w.ops i f.small) holds)))

      same_sums : (W : ℕ) → Same (plain (with_sums t (set t.sums c W)) base wrk') (S.call p k).site
      same_sums W = unfold plain plain_class in (rw o same)

      sums_right : (W : ℕ) → (S.call p k).answer ≡ K.waiting id W back → (e : ℕ) → e < 16
          → get_or (set t.sums c W) e 0 ≡ Q.confirmed_costs ((S.call p k).site.class e).queue
      sums_right W says e l =
          rw (ss, wait_sum p sound_p id n taken id W back says e, class_is_c)
          (by_test (eqb e c)
          (λ t. rw (eqb-true e c t, eq-eqb c c refl) (get_or-set_same s.sums c W 0 (omega (arith, w.sums, class_small))))
          (λ g. rw g (get_or-set_other s.sums c e W 0 (eqb-false e c g) ∙ unfold plain plain_class in (q.sums_right e l))))

  -- THE HEAD STAYS: it is the request itself, not executed, or it is confirmed
  module _ (t : Store) (d : Forward s c i n from to t) where
    moves : K.confirm_step id n (p.class c) ≡ K.told id 0 (K.moved id n (queue_of s c)) (cells_of base c) (cells_of wrk c) → Goes t wrk 0
    moves step =
        goes t wrk 0 (K.moved id n (queue_of s c)) r.1 (ap length d.slots ∙ length-set s.slots i _ ∙ w.slots) d.queries d.sums
        (forward_laid s t w q.laid c i n from to class_small refl holds f.place forward f.next d) step
        (subst (λ (z : ℕ). Same (plain t base wrk) (S.in_class p c (some z) (K.told z 0 (K.moved z n (queue_of s c)) (cells_of base c) (cells_of wrk c))).site) f.is
        (forward_means s t w q.laid c i n from to class_small refl holds f.place forward f.next d q.ids_differ parts.0 parts.1 base wrk 0))

    pub itself : hd ≡ i → v.done < v.count → Goes t wrk 0
    unfolding K.confirm_step plain plain_class
    itself e l = moves (ap (λ (z : List Q.Item). K.confirm_on id n z (cells_of base c) (cells_of wrk c)) own_head
        ∙ rw (eq-eqb v.id id f.is, ops_count v (w.ops i f.small) holds, lt-leb v.count v.done l)
        (ap (λ (z : List Q.Item). K.told id 0 (K.moved id n z) (cells_of base c) (cells_of wrk c)) (sym own_head)))
      where
        own_head : queue_of s c ≡ Q.booking (entry_of i v) ∷ items s.slots s.queries ps
        own_head = head_queue ∙ ap (λ (j : ℕ). item_at s.slots s.queries j ∷ items s.slots s.queries ps) e
            ∙ ap (λ (z : Q.Item). z ∷ items s.slots s.queries ps) (slot_item s.slots s.queries i f.small)

    pub behind_confirmed : (hd ≡ i → ⊥) → (128 ≤ hd) ⊎ (0 < u.number) → Goes t wrk 0
    unfolding K.confirm_step plain plain_class
    behind_confirmed ne l = moves (ap (λ (z : List Q.Item). K.confirm_on id n z (cells_of base c) (cells_of wrk c)) head_queue
        ∙ rw (other_id ne, no_back l, stays_head l)
        (ap (λ (z : List Q.Item). K.told id 0 (K.moved id n z) (cells_of base c) (cells_of wrk c)) (sym head_queue)))
      where
        sure : (128 ≤ hd) ⊎ (0 < u.number) → Q.is_confirmed hi ≡ true
        sure (inl z) = rw (le-ltb hd 128 z)
        sure (inr z) = by_test (ltb hd 128) (λ t. rw t (lt-ltb 0 u.number z)) (λ f. rw f)

        no_back : (128 ≤ hd) ⊎ (0 < u.number) → K.back_id hi ≡ 0
        no_back (inl z) = rw (le-ltb hd 128 z)
        no_back (inr z) = by_test (ltb hd 128) (λ t. rw (t, lt-ltb 0 u.number z)) (λ f. rw f)

        stays_head : (128 ≤ hd) ⊎ (0 < u.number) → Q.is_confirmed hi ≡ true
        stays_head l = sure l

  -- ANOTHER HEAD IS PUT BACK
  module _ (ne : hd ≡ i → ⊥) (hd-small : hd < 128) (waiting : u.number ≡ 0) (a : Store) (wrk' : List ℕ) (b : PutBack s base wrk c a wrk') where
    abbrev a₁ : Store
    a₁ = with_slot x.site (head_slot x.site (slot_at x.site.slots i).class) (as_put_back (slot_at x.site.slots (head_slot x.site (slot_at x.site.slots i).class)))

    inside : hd < length s.slots
    inside = omega (arith, w.slots, hd-small)

    shaped₁ : Shaped a₁
    shaped₁ = kept_shaped s w hd (as_put_back u) hd-small (w.ops hd hd-small) refl

    laid₁ : Laid a₁
    laid₁ = kept_laid s w q.laid hd hd-small (as_put_back u) refl refl (holds_kept u (as_put_back u) refl refl refl (hd_holds hd-small))

    -- the request's own slot is as it was
    same_slot : slot_at a₁.slots i ≡ v
    same_slot = elsewhere s.slots hd (as_put_back u) inside i (λ e. ne (sym e))

    of_class : u.class ≡ c
    of_class = stands_class c u (times hd ps) (sym (slot_stands s c hd hd-small) ∙ sym (q.laid.exactly_once c hd class_small) ∙ ap (times hd) head_places ∙ rw (eq-eqb hd hd refl))

    once : times hd (places s c) ≡ 1
    once = subst (λ (e : ℕ). times hd (places s e) ≡ 1) of_class (there s w q.laid base wrk hd hd-small (hd_holds hd-small))

    gone : times hd ps ≡ 0
    gone = let e = ap (times hd) (sym head_places) ∙ once in let z : suc (times hd ps) ≡ 1 = rw (eq-eqb hd hd refl) at e in omega arith

    back_is : queue_of a₁ c ≡ K.put_back (Q.booking (entry_of hd u)) ∷ items s.slots s.queries ps
    back_is = ap (items a₁.slots s.queries) head_places ∙ back_queue s.slots s.queries hd ps inside hd-small gone

    -- the other classes' queues
    others₁ : (e : ℕ) → e < 16 → (e ≡ c → ⊥) → queue_of a₁ e ≡ queue_of s e
    others₁ e m n' =
        items_kept s.slots hd (as_put_back u) inside s.queries (places s e)
        (q.laid.exactly_once e hd m ∙ slot_stands s e hd hd-small ∙ rw (of_class, ne_eqb c e (λ z. n' (sym z)), and-false (is_used u)))

    slot_head : queue_of s c ≡ Q.booking (entry_of hd u) ∷ items s.slots s.queries ps
    slot_head = head_queue ∙ ap (λ (z : Q.Item). z ∷ items s.slots s.queries ps) (slot_item s.slots s.queries hd hd-small)

    -- behind a waiting head all wait
    all_wait : All Waiting (queue_of a₁ c)
    all_wait = rw back_is (
      waiting,
      waits_all 0 s.confirmations (Q.booking (entry_of hd u)) (items s.slots s.queries ps)
          (subst (λ (z : List Q.Item). InOrder 0 s.confirmations z) slot_head (q.confirmed_before_waiting c class_small)) (le-ltb 0 u.number (omega arith)),
    )

    at_front : to ≡ 0
    at_front = by_test (ltb 0 to)
        (λ t. let z : 136 * c + 0 ≡ 136 * c = omega arith in absurd (not_so (rw z at (f.first.before 0 (ltb-true 0 to t)))))
        (λ g. omega (arith, ltb-false 0 to g))
      where
        not_so : (128 ≤ hd) ⊎ (0 < u.number) → ⊥
        not_so (inl z) = omega (arith, hd-small)
        not_so (inr z) = omega (arith, waiting)

    parts₁ : All Confirmed (take to (queue_of a₁ c)) × All Waiting (drop to (queue_of a₁ c))
    parts₁ = rw at_front (tt, all_wait)

    id_same : (j : ℕ) → (slot_at a₁.slots j).id ≡ (slot_at s.slots j).id
    id_same = by_slot s.slots hd (as_put_back u) inside (λ j y. y.id ≡ (slot_at s.slots j).id) refl (λ j n'. refl)

    ids₁ : Apart 128 (λ j. (slot_at a₁.slots j).id)
    ids₁ g h l m e = id_same g ∙ q.ids_differ g h l m (sym (id_same g) ∙ e ∙ id_same h)

    other_slot : eqb u.id id ≡ false
    other_slot = sym (ap (Q.id_is id) (slot_item s.slots s.queries hd hd-small)) ∙ other_id ne

    step₁ : K.confirm_step id n (p.class c) ≡ K.told id u.id (K.moved id n (queue_of a₁ c)) (cells_of base c) (cells_of wrk' c)
    unfolding K.confirm_step plain plain_class
    step₁ =
        ap (λ (z : List Q.Item). K.confirm_on id n z (cells_of base c) (cells_of wrk c)) slot_head
        ∙ rw (other_slot, le-ltb 0 u.number (omega arith))
        (ap (λ (z : List Q.Item). K.told id u.id (K.moved id n z) (cells_of base c) (cells_of base c)) (sym back_is)
        ∙ ap (λ (z : List ℕ). K.told id u.id (K.moved id n (queue_of a₁ c)) (cells_of base c) z) (sym b.own))

    module _ (t : Store) (d : Forward a₁ c i n from to t) where
      abbrev own₁ : (slot_at a₁.slots i).class ≡ c
      own₁ = ap (λ (y : Slot). y.class) same_slot

      holds₁ : Holds (slot_at a₁.slots i)
      holds₁ = subst Holds (sym same_slot) holds

      place₁ : PlaceOf a₁ c i from
      place₁ = record { within = f.place.within; is = f.place.is }

      is₁ : (slot_at a₁.slots i).id ≡ id
      is₁ = id_same i ∙ f.is

      told₁ : K.Did
      told₁ = K.told id u.id (K.moved id n (queue_of a₁ c)) (cells_of base c) (cells_of wrk' c)

      means₁ : Same (plain t base wrk') (S.in_class (plain a₁ base wrk') c (some id) told₁).site
      unfolding told₁
      means₁ = subst (λ (z : ℕ). Same (plain t base wrk') (S.in_class (plain a₁ base wrk') c (some z) (K.told z u.id (K.moved z n (queue_of a₁ c)) (cells_of base c) (cells_of wrk' c))).site) is₁
          (forward_means a₁ t shaped₁ laid₁ c i n from to class_small own₁ holds₁ place₁ forward f.next d ids₁ parts₁.0 parts₁.1 base wrk' u.id)

      between : Same (S.in_class (plain a₁ base wrk') c (some id) told₁).site (S.in_class p c (some id) told₁).site
      unfolding plain plain_class told₁
      between = same_in (plain a₁ base wrk') p c (some id) told₁ told₁
          (λ e m n'. λ j. record { queue = others₁ e m n' j; committed = cells_of base e; working = b.others e n' j }) refl refl refl (λ j r. refl) refl refl

      goes₁ : Goes t wrk' u.id
      unfolding told₁
      goes₁ = goes t wrk' u.id (K.moved id n (queue_of a₁ c)) b.cells
          (ap length d.slots ∙ length-set a₁.slots i _ ∙ shaped₁.slots) d.queries d.sums
          (forward_laid a₁ t shaped₁ laid₁ c i n from to class_small own₁ holds₁ place₁ forward f.next d) step₁
          (same_trans means₁ between)

    pub head_put_back : (t : Store) → Forward a c i n from to t → Goes t wrk' u.id
    head_put_back t d = goes₁ t (subst (λ (z : Store). Forward z c i n from to t) b.is d)
