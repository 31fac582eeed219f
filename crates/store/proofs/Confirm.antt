-- Confirm, of a request that does not commit at once: its slot gets the number, another waiting head is put back, and its place moves up. Assumes nothing.
use Prim.Native.Nat.{ℕ, suc, ◌+◌, ◌<◌, ◌≤◌}
use native.Mathlib.Omega.{arith}
use mathlib.Core.Path.{◌≡◌, refl, sym, ap, ◌∙◌}
use mathlib.Core.Logic.{◌⊎◌}
use mathlib.Core.Bool.{false}
use mathlib.Core.List.{List, ◌∷◌, map}
use lib.ListN.{length, get_or, take, drop, set, length-map, get_or-map}
use lib.Seq.{split_at, take-take}
use borrow.Author.Tests.{eq-eqb, lt-ltb}
use Rattle.plain.specs.Queue as Q
use Rattle.plain.specs.Steps as K
use Rattle.store.proofs.Lists.{map_drop, map_moved, map_take}
use Rattle.places.specs.Moves.{moved_up}
use Rattle.plain.specs.Sound.{All, Waiting}
use Rattle.slots.specs.Meaning.{entry_of, slot_free, is_used, request_of, slot_at}
use Rattle.slots.specs.Rules.{Holds}
use Rattle.slots.specs.declared.Slot.{Slot}
use Rattle.store.proofs.Lists.{times_append}
use Rattle.store.proofs.Moving.{Confirmed, moved_is, times_moved}
use Rattle.store.proofs.Relaid.{Queued, at_stored, items_kept, relaid}
use Rattle.store.proofs.Canonical.{slot_item}
use Rattle.store.specs.Meaning.{item_at, items, places}
use Rattle.store.specs.Sound.{Laid, stands_at, times, Unused}
use Rattle.store.specs.Steps.{with_number, as_put_back}
use Rattle.queries.specs.declared.Query.{Query}
use Rattle.store.specs.Store.{Shaped, Store}
use Rattle.usedmap.specs.Flags.{used_of}

-- a move does not look at what stands where it starts
moved_cong : {A : Type 0} (x : A) (l m : List A) (from to : ℕ) → to ≤ from → take from l ≡ take from m → drop (suc from) l ≡ drop (suc from) m
    → moved_up x l from to ≡ moved_up x m from to
moved_cong x l m from to k e f =
    let g : take to l ≡ take to m = sym (take-take to from l k) ∙ ap (take to) e ∙ take-take to from m k in
    rw (g, e, f)

-- a slot that stands once in a queue, at `from`, stands neither before nor behind
module _ (i : ℕ) (ps : List ℕ) (from : ℕ) (l : from < length ps) (at : get_or ps from 0 ≡ i) (one : times i ps ≡ 1) where
  pub apart : (times i (take from ps) ≡ 0) × (times i (drop (suc from) ps) ≡ 0)
  apart =
      let e = ap (times i) (split_at ps from 0 l) ∙ times_append i (take from ps) (get_or ps from 0 ∷ drop (suc from) ps) in
      let f : times i (get_or ps from 0 ∷ drop (suc from) ps) ≡ suc (times i (drop (suc from) ps)) = rw (at, eq-eqb i i refl) in
      (omega arith, omega arith)

  -- its slot is stored and its place moved: in the queue, its new entry is moved
  pub items_moved : (sl : List Slot) (qs : List Query) (v : Slot) (m : i < length sl) (small : i < 128) (to : ℕ) → to ≤ from
      → items (set sl i v) qs (moved_up i ps from to) ≡ moved_up (Q.booking (entry_of i v)) (items sl qs ps) from to
  items_moved sl qs v m small to k =
      map_moved (item_at (set sl i v) qs) i ps from to
      ∙ ap (λ (x : Q.Item). moved_up x (items (set sl i v) qs ps) from to)
      (slot_item (set sl i v) qs i small ∙ ap (λ (x : Slot). Q.booking (entry_of i x)) (at_stored sl i v m))
      ∙ moved_cong (Q.booking (entry_of i v)) (items (set sl i v) qs ps) (items sl qs ps) from to k
      (sym (map_take _ from ps) ∙ items_kept sl i v m qs (take from ps) apart.0 ∙ map_take _ from ps)
      (sym (map_drop _ (suc from) ps) ∙ items_kept sl i v m qs (drop (suc from) ps) apart.1 ∙ map_drop _ (suc from) ps)

-- what a slot holds and where it stands does not go by its number and its progress
pub holds_kept : (u v : Slot) → v.count ≡ u.count → v.ops ≡ u.ops → request_of v ≡ request_of u → Holds u → Holds v
holds_kept u v c o r h = record {
  count = rw c h.count;
  coded = rw (c, o) h.coded;
  rest = rw (c, o) h.rest;
  valid = rw r h.valid;
}

-- Laid again, where each slot keeps its record
module _ (s t : Store) (w : Shaped s) (h : Laid s) (c from to : ℕ) (l : c < 16) (m : from < length (places s c)) (k : to ≤ from)
    (q : Queued s t c (moved_up (get_or (places s c) from 0) (places s c) from to))
    (kept : (j : ℕ) → ((slot_at t.slots j).id ≡ (slot_at s.slots j).id) × ((slot_at t.slots j).class ≡ (slot_at s.slots j).class))
    (valid : (j : ℕ) → j < 128 → (slot_at t.slots j ≡ slot_free) ⊎ Holds (slot_at t.slots j))
    (map' : used_of t.low t.high ≡ used_of s.low s.high) (flags : map is_used t.slots ≡ map is_used s.slots) (unused : Unused t) (qs : t.queries ≡ s.queries) where
  pub confirm_laid : Laid t
  confirm_laid = relaid s t c (moved_up (get_or (places s c) from 0) (places s c) from to) q h (record {
    slots = valid;
    own = λ j. times_moved j (places s c) from to m k ∙ h.exactly_once c j l ∙ sym (same c j);
    others = λ d j _ ne. same d j;
    used = map' ∙ h.map_agrees ∙ sym flags;
  }) unused (rw qs h.free_queries_zero)
    where
      same : (d j : ℕ) → stands_at t d j ≡ stands_at s d j
      same d j = rw (qs, (kept j).0, (kept j).1)

-- the queue: the head as it is, and the head put back
module _ (sl : List Slot) (qs : List Query) (ps : List ℕ) (i from to n : ℕ) (l : from < length ps) (k : to ≤ from) (at : get_or ps from 0 ≡ i) (one : times i ps ≡ 1) (m : i < length sl) (small : i < 128)
    (first : Q.has (slot_at sl i).id (take from (items sl qs ps)) ≡ false) (a : All Confirmed (take to (items sl qs ps))) (b : All Waiting (drop to (items sl qs ps))) where
  pub confirm_queue : items (set sl i (with_number n (slot_at sl i))) qs (moved_up i ps from to) ≡ K.moved (slot_at sl i).id n (items sl qs ps)
  confirm_queue =
      items_moved i ps from l at one sl qs (with_number n (slot_at sl i)) m small to k
      ∙ ap (λ (e : Q.Item). moved_up (K.numbered n e) (items sl qs ps) from to) (sym here)
      ∙ sym (moved_is (slot_at sl i).id n (items sl qs ps) from to none (omega (arith, length-map ps (item_at sl qs))) k (ap (Q.id_is (slot_at sl i).id) here ∙ eq-eqb (slot_at sl i).id (slot_at sl i).id refl) first a b)
    where
      none : Q.Item
      none = item_at sl qs 0

      here : get_or (items sl qs ps) from (item_at sl qs 0) ≡ Q.booking (entry_of i (slot_at sl i))
      here = get_or-map (item_at sl qs) ps from 0 ∙ ap (item_at sl qs) at ∙ slot_item sl qs i small

pub back_queue : (sl : List Slot) (qs : List Query) (h : ℕ) (ps : List ℕ) (m : h < length sl) → h < 128 → times h ps ≡ 0
    → items (set sl h (as_put_back (slot_at sl h))) qs (h ∷ ps) ≡ K.put_back (Q.booking (entry_of h (slot_at sl h))) ∷ items sl qs ps
back_queue sl qs h ps m small z =
    let one : (slot_at sl h).backs + 1 ≡ suc (slot_at sl h).backs = omega arith in
    rw (lt-ltb h 128 small, at_stored sl h (as_put_back (slot_at sl h)) m, items_kept sl h (as_put_back (slot_at sl h)) m qs ps z, one)
