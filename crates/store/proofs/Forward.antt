-- A request gets its number and its place moves forward: the site stays laid out, and its class's queue is the plain one moved. Assumes nothing.
use Prim.Native.Nat.{ℕ, ◌+◌, ◌<◌, ◌≤◌}
use native.Mathlib.Omega.{arith}
use mathlib.Core.Path.{◌≡◌, refl, sym, ap, ◌∙◌, subst}
use mathlib.Core.Logic.{◌⊎◌, inr}
use mathlib.Core.Bool.{true, false, and-false}
use mathlib.Core.Option.{some}
use mathlib.Core.List.{List, [], map}
use lib.ListN.{length, get_or, take, drop}
use lib.Seq.{map-set_same}
use borrow.Author.Tests.{ne_eqb}
use Rattle.plain.specs.Queue as Q
use Rattle.plain.specs.Steps as K
use Rattle.plain.specs.Site as S
use Rattle.plain.specs.Sound.{All, Waiting}
use Rattle.places.specs.Moves.{moved_up}
use Rattle.store.proofs.Lists.{map_take}
use Rattle.slots.specs.declared.Slot.{Slot}
use Rattle.slots.specs.Meaning.{slot_free, is_used, no_slot, slot_at}
use Rattle.slots.specs.Rules.{Holds}
use Rattle.store.specs.Store.{Store, Shaped}
use Rattle.store.specs.Meaning.{len_of, places, item_at, items, queue_of, cells_of, plain, Same}
use Rattle.store.specs.Sound.{times, Laid, Apart}
use Rattle.store.specs.Steps.{with_number, PlaceOf, Forward}
use Rattle.store.proofs.Canonical.{has_id, places_length, slot_stands}
use Rattle.store.proofs.Walk.{place_at}
use Rattle.store.proofs.Standing.{used_small}
use Rattle.store.proofs.Relaid.{by_slot, items_kept, Queued, means}
use Rattle.store.proofs.KeptIds.{kept_after, unused_after}
use Rattle.store.proofs.Moving.{Confirmed, moved_queue}
use Rattle.store.proofs.Confirm.{apart, confirm_laid, confirm_queue, holds_kept}
use Rattle.store.proofs.Asked.{has_none, there, one_id}

module _ (s t : Store) (w : Shaped s) (h : Laid s) (c i n from to : ℕ) (l : c < 16) (own : (slot_at s.slots i).class ≡ c) (held : Holds (slot_at s.slots i))
    (place : PlaceOf s c i from) (k : to ≤ from) (next : n ≡ s.confirmations + 1) (d : Forward s c i n from to t) where
  abbrev v : Slot
  v = slot_at s.slots i

  abbrev ps : List ℕ
  ps = places s c

  used : is_used v ≡ true
  used = let z = has_id v held in rw (ne_eqb v.id 0 (omega arith))

  small : i < 128
  small = used_small s w.slots i used

  inside : i < length s.slots
  inside = omega (arith, w.slots, small)

  long : length ps ≡ len_of s c
  long = places_length s w h c l

  at : get_or ps from 0 ≡ i
  at = place_at s w c l (h.not_longer_than_136 c l) from place.within ∙ place.is

  queued : Queued s t c (moved_up i ps from to)
  queued = subst (λ (x : ℕ). Queued s t c (moved_up x ps from to)) at
      (moved_queue s t w h c from to l place.within k d.queue.own d.lens d.queue.others)

  -- each slot keeps its record
  kept : (j : ℕ) → ((slot_at t.slots j).id ≡ (slot_at s.slots j).id) × ((slot_at t.slots j).class ≡ (slot_at s.slots j).class)
  kept j = rw d.slots (by_slot s.slots i (with_number n v) inside
      (λ j x. (x.id ≡ (slot_at s.slots j).id) × (x.class ≡ (slot_at s.slots j).class)) (refl, refl) (λ j ne. (refl, refl)) j)

  valid : (j : ℕ) → j < 128 → (slot_at t.slots j ≡ slot_free) ⊎ Holds (slot_at t.slots j)
  valid j m = rw d.slots (by_slot s.slots i (with_number n v) inside
      (λ j x. j < 128 → (x ≡ slot_free) ⊎ Holds x) (λ _. inr (holds_kept v (with_number n v) refl refl refl held)) (λ j ne m. h.free_or_valid j m) j m)

  flags : map is_used t.slots ≡ map is_used s.slots
  flags = ap (map is_used) d.slots ∙ map-set_same is_used s.slots i (with_number n v) no_slot refl

  pub forward_laid : Laid t
  forward_laid = confirm_laid s t w h c from to l (omega (arith, long, place.within)) k
      (subst (λ (x : ℕ). Queued s t c (moved_up x ps from to)) (sym at) queued) kept valid (rw (d.map.0, d.map.1)) flags
      (unused_after s t n v.id w.kept next d.confirmations d.kept h.unused_zero) d.queries

  -- where it stands it stands once
  once : times i ps ≡ 1
  once = subst (λ (e : ℕ). times i (places s e) ≡ 1) own (there s w h [] [] i small held)

  -- no request before it has its id
  first : Apart 128 (λ j. (slot_at s.slots j).id) → Q.has v.id (take from (queue_of s c)) ≡ false
  first ids = rw (sym (map_take (item_at s.slots s.queries) from ps)) (has_none s.slots s.queries v.id (take from ps) (λ j k m e.
      let same : j ≡ i = one_id (λ j. (slot_at s.slots j).id) ids j i k small (omega (arith, has_id v held, e)) e in
      omega (arith, subst (λ (z : ℕ). 0 < times z (take from ps)) same m, (apart i ps from (omega (arith, long, place.within)) at once).0)))

  module _ (ids : Apart 128 (λ j. (slot_at s.slots j).id)) (a : All Confirmed (take to (queue_of s c))) (b : All Waiting (drop to (queue_of s c))) where
    elsewhere : (e : ℕ) → e < 16 → (e ≡ c → ⊥) → items t.slots t.queries (places s e) ≡ items s.slots s.queries (places s e)
    elsewhere e m ne =
        rw (d.slots, d.queries)
        (items_kept s.slots i (with_number n v) inside s.queries (places s e) (h.exactly_once e i m ∙ slot_stands s e i small ∙ rw (own, ne_eqb c e (λ z. ne (sym z)), and-false (is_used v))))

    pub forward_means : (base wrk : List ℕ) (back : ℕ)
        → Same (plain t base wrk) (S.in_class (plain s base wrk) c (some v.id) (K.told v.id back (K.moved v.id n (queue_of s c)) (cells_of base c) (cells_of wrk c))).site
    forward_means base wrk back =
        means s t c (moved_up i ps from to) queued base wrk base wrk (some v.id) (K.told v.id back (K.moved v.id n (queue_of s c)) (cells_of base c) (cells_of wrk c))
        (rw (d.slots, d.queries) (confirm_queue s.slots s.queries ps i from to n (omega (arith, long, place.within)) k at once inside small (first ids) a b))
        refl refl elsewhere (λ e m ne. (refl, refl)) d.confirmations (d.commits ∙ omega arith) d.begun
        (kept_after s t n v.id w.kept next d.confirmations d.kept)
