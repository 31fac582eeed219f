-- The queues by flat places: place p of class c stands at 136 c + p. Assumes nothing.
use Prim.Native.Nat.{ℕ, suc, ◌+◌, ◌*◌, ◌-◌, ◌<◌}
use native.Mathlib.Omega.{arith}
use mathlib.Core.Path.{◌≡◌, sym, ap, ◌∙◌, subst}
use mathlib.Core.Logic.{◌⊎◌, inl, inr}
use mathlib.Core.Bool.{true}
use mathlib.Core.List.{[], ◌∷◌}
use lib.ListN.{length, get_or, drop, replicate, length-map, length-drop, length-replicate, get_or-replicate, get_or-map}
use lib.Seq.{ext_get_or, length-take-le, get_or-take, get_or-drop, drop-cons}
use Rattle.places.specs.Moves.{part}
use Rattle.plain.proofs.Tests.{no}
use Rattle.plain.specs.Queue.{Item}
use Rattle.plain.specs.Sound.{InOrder}
use Rattle.slots.specs.Meaning.{slot_free, is_used, slot_at}
use Rattle.slots.specs.Rules.{Holds}
use Rattle.slots.specs.declared.Slot.{Slot}
use Rattle.store.proofs.Flat.{rules_from, bounded_of, linked_of}
use Rattle.store.proofs.Lists.{all_place, times_none}
use Rattle.store.proofs.Once.{stays_of}
use Rattle.store.proofs.Standing.{stays_small}
use Rattle.store.proofs.Walk.{long, place_at}
use Rattle.store.specs.Checks.{InRange, PlacesIn, Stays, Tails}
use Rattle.store.specs.Meaning.{item_at, len_of, places, queue_of}
use Rattle.store.specs.Sound.{Once, Rest, Short, SlotsOk, times}
use Rattle.store.specs.Store.{Shaped, Store}

-- a queue and its flat places
module _ (s : Store) (w : Shaped s) (short : Short s.lens) where
  module _ (c : ℕ) (l : c < 16) where
    part_long : length (part s.queue c) ≡ 136
    part_long = length-take-le 136 (drop (136 * c) s.queue) (omega (arith, length-drop (136 * c) s.queue, w.queue))

    past_at : (k : ℕ) → len_of s c + k < 136 → get_or (drop (len_of s c) (part s.queue c)) k 0 ≡ get_or s.queue (136 * c + (len_of s c + k)) 0
    past_at k h = get_or-drop (len_of s c) (part s.queue c) k 0 ∙ get_or-take 136 (drop (136 * c) s.queue) (len_of s c + k) 0 h ∙ get_or-drop (136 * c) s.queue (len_of s c + k) 0

    -- queue places past the end are zero, by flat places
    pub past_of : Tails s.queue s.lens → drop (len_of s c) (part s.queue c) ≡ replicate (136 - len_of s c) 0
    past_of h =
        ext_get_or 0 (drop (len_of s c) (part s.queue c)) (replicate (136 - len_of s c) 0)
        (omega (arith, length-drop (len_of s c) (part s.queue c), part_long, length-replicate {A = ℕ} (136 - len_of s c) 0))
        (λ k m.
        let g : len_of s c + k < 136 = omega (arith, length-drop (len_of s c) (part s.queue c), part_long) in
        past_at k g ∙ h c l (136 * c + (len_of s c + k)) (omega arith) (omega arith) ∙ sym (get_or-replicate (136 - len_of s c) k 0 0 (omega arith)))

    in_places : (p : ℕ) → p < len_of s c → get_or (places s c) p 0 ≡ get_or s.queue (136 * c + p) 0
    in_places = place_at s w c l (short c l)

    count : length (places s c) ≡ len_of s c
    count = long s w c l (short c l)

    -- the rules of a queue, by flat places
    pub ordered : PlacesIn s → InOrder 0 s.confirmations (queue_of s c) × Rest (queue_of s c)
    ordered h =
        rules_from s s.confirmations (places s c)
        (λ p k.
        let g : p < len_of s c = omega (arith, count) in
        rw (in_places p g) (h c l p g).given)
        (λ p k.
        let g : suc p < len_of s c = omega (arith, count) in
        let m : 136 * c + suc p - 1 ≡ 136 * c + p = omega arith in
        rw (in_places p (omega arith), in_places (suc p) g, ← m) ((h c l (suc p) g).follows (omega arith)))

    -- what stands at a flat place that counts
    pub place_stays : Once s → (p : ℕ) → p < len_of s c → Stays s c (get_or s.queue (136 * c + p) 0)
    place_stays once p k = subst (Stays s c) (in_places p k) (all_place (Stays s c) 0 (places s c) (stays_of s once c l) p (omega (arith, count)))

    -- the head, or that there is none
    pub empty : len_of s c ≡ 0 → queue_of s c ≡ []
    empty z = rw z

    pub headed : 0 < len_of s c → queue_of s c ≡ item_at s.slots s.queries (get_or s.queue (136 * c) 0) ∷ drop 1 (queue_of s c)
    headed k =
        let z : 136 * c + 0 ≡ 136 * c = omega arith in
        drop-cons (queue_of s c) 0 (item_at s.slots s.queries 0) (omega (arith, length-map (places s c) (item_at s.slots s.queries), count))
        ∙ ap (λ (x : Item). x ∷ drop 1 (queue_of s c))
        (get_or-map (item_at s.slots s.queries) (places s c) 0 0 ∙ ap (item_at s.slots s.queries) (in_places 0 k ∙ ap (λ (n : ℕ). get_or s.queue n 0) z))

  -- a place that counts names a slot or a query
  pub in_range : Once s → InRange s.queue s.lens
  in_range once c l p k = stays_small s w.slots w.queries c (get_or s.queue (136 * c + p) 0) (place_stays c l once p k)

  -- a slot that stands at no place of a queue does not stand in it
  pub not_placed : (c i : ℕ) → c < 16 → ((k : ℕ) → k < len_of s c → get_or s.queue (136 * c + k) 0 ≡ i → ⊥) → times i (places s c) ≡ 0
  not_placed c i l h = times_none i (places s c) (λ k m e. let g : k < len_of s c = omega (arith, count c l) in h k g (sym (in_places c l k g) ∙ e))

  -- a head that is a slot holds a valid record
  pub head_holds : SlotsOk s → Once s → (c : ℕ) → c < 16 → 0 < len_of s c → get_or s.queue (136 * c) 0 < 128 → Holds (slot_at s.slots (get_or s.queue (136 * c) 0))
  head_holds ok once c l k m =
      let e : 136 * c + 0 ≡ 136 * c = omega arith in
      go (used (rw e at (place_stays c l once 0 k))) (ok (get_or s.queue (136 * c) 0) m)
    where
      used : Stays s c (get_or s.queue (136 * c) 0) → is_used (slot_at s.slots (get_or s.queue (136 * c) 0)) ≡ true
      used (inl h) = h.1.used
      used (inr h) = absurd (omega (arith, h.0))

      go : {v : Slot} → is_used v ≡ true → (v ≡ slot_free) ⊎ Holds v → Holds v
      go u (inl e) = no _ u (ap is_used e)
      go u (inr e) = e

  -- back: the rules of each queue give those of its places
  pub tails_of : ((c : ℕ) → c < 16 → drop (len_of s c) (part s.queue c) ≡ replicate (136 - len_of s c) 0) → Tails s.queue s.lens
  tails_of h c l k m n =
      let p = k - 136 * c - len_of s c in
      let e : 136 * c + (len_of s c + p) ≡ k = omega arith in
      sym (ap (λ (n : ℕ). get_or s.queue n 0) e) ∙ sym (past_at c l p (omega arith)) ∙ rw (h c l) (get_or-replicate (136 - len_of s c) p 0 0 (omega arith))

  pub places_of : ((c : ℕ) → c < 16 → InOrder 0 s.confirmations (queue_of s c)) → ((c : ℕ) → c < 16 → Rest (queue_of s c)) → PlacesIn s
  places_of o r c l p k = record {
    given = rw (← (in_places c l p k)) (bounded_of s s.confirmations 0 (places s c) (o c l) p (omega (arith, count c l)));
    follows = λ z.
        let e : suc (p - 1) ≡ p = omega arith in
        let e' : 136 * c + (p - 1) ≡ 136 * c + p - 1 = omega arith in
        let f = linked_of s s.confirmations 0 (places s c) (o c l) (r c l) (p - 1) (omega (arith, count c l)) in
        rw (in_places c l (p - 1) (omega arith), e, in_places c l p k, e') at f;
  }
