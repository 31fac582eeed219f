-- W added up place by place: what each place of a queue takes, an entry of a query one call, up to the request's own. Assumes nothing.
use Prim.Native.Nat.{ℕ, suc, ◌+◌, ◌*◌, ◌-◌, ◌<◌, ◌≤◌}
use native.Mathlib.Omega.{arith}
use mathlib.Core.Path.{◌≡◌, refl, sym, ap, ◌∙◌}
use mathlib.Core.Logic.{inl, inr}
use mathlib.Core.Bool.{Bool, true, false}
use mathlib.Core.List.{List, [], ◌∷◌}
use lib.Dec.{eqb, ltb}
use lib.ListN.{length, get_or, drop, length-map, get_or-map}
use lib.Seq.{drop-cons}
use borrow.Author.Tests.{eqb-true, eqb-false, eq-eqb, ne_eqb, lt-ltb, le-ltb, ltb-true}
use Rattle.plain.specs.Queue as Q
use Rattle.plain.proofs.Tests.{by_test}
use Rattle.slots.proofs.Records.{ops_count}
use Rattle.slots.specs.Meaning.{is_used, slot_at}
use Rattle.slots.specs.Rules.{Holds}
use Rattle.slots.specs.declared.Slot.{Slot}
use Rattle.store.specs.Calls.{RightCells, SoundState, State}
use Rattle.store.specs.Checks.{Stays}
use Rattle.store.specs.Meaning.{item_at, len_of, places, queue_of}
use Rattle.store.specs.Steps.{Countable, left_at}
use Rattle.store.specs.Store.{Shaped, Store}
use Rattle.store.proofs.Asked.{one_id}
use Rattle.store.proofs.Canonical.{has_id, places_length, slot_item}
use Rattle.store.proofs.Meant.{used_holds}
use Rattle.store.proofs.Places.{place_stays}
use Rattle.store.proofs.Walk.{place_at}
use Rattle.store.proofs.Whole.{places_in}
use Rattle.store.proofs.Work.{head_held, head_sound}

-- what a place takes, by what it names
pub takes_ops : (l : List Slot) (b w : ℕ) → b < 128 → w + ((slot_at l b).count - (slot_at l b).done) ≡ w + left_at l b
takes_ops l b w m = rw (lt-ltb b 128 m)

pub takes_one : (l : List Slot) (b w : ℕ) → 128 ≤ b → w + 1 ≡ w + left_at l b
takes_one l b w m = rw (le-ltb b 128 m)

-- one turn of the walk
module _ (s : Store) (w : Shaped s) (c i : ℕ) (h : Countable s c) (small : i < 128) (some_id : 0 < (slot_at s.slots i).id) where
  abbrev f : Q.Item → Bool
  f = Q.id_is (slot_at s.slots i).id

  module _ (p : ℕ) (l : p < len_of s c) where
    abbrev y : ℕ
    y = get_or s.queue (136 * c + p) 0

    abbrev v : Slot
    v = slot_at s.slots (get_or s.queue (136 * c + p) 0)

    pub place_held : y < 128 → Holds v
    place_held m = used_holds s w.slots w.queries h.laid y (used (place_stays s w h.laid.not_longer_than_136 c h.class h.laid.exactly_once p l))
      where
        used : Stays s c y → is_used v ≡ true
        used (inl z) = z.1.used
        used (inr z) = absurd (omega (arith, z.0))

    pub next_is : drop p (queue_of s c) ≡ item_at s.slots s.queries y ∷ drop (suc p) (queue_of s c)
    next_is =
        drop-cons (queue_of s c) p (item_at s.slots s.queries 0)
        (omega (arith, length-map (places s c) (item_at s.slots s.queries), places_length s w h.laid c h.class))
        ∙ ap (λ (x : Q.Item). x ∷ drop (suc p) (queue_of s c))
        (get_or-map (item_at s.slots s.queries) (places s c) p 0
        ∙ ap (item_at s.slots s.queries) (place_at s w c h.class (h.laid.not_longer_than_136 c h.class) p l))

    takes : Q.left (item_at s.slots s.queries y) ≡ left_at s.slots y
    takes = by_test (ltb y 128)
        (λ t. let m = ltb-true y 128 t in rw (t, ops_count v (w.ops y m) (place_held m)))
        (λ g. rw g)

    -- a place takes 7 calls at most
    pub at_most_7 : left_at s.slots y ≤ 7
    at_most_7 = by_test (ltb y 128)
        (λ t. rw t (omega (arith, (place_held (ltb-true y 128 t)).count)))
        (λ g. rw g (omega arith))

    pub counts_here : y ≡ i → Q.up_to f (drop p (queue_of s c)) ≡ left_at s.slots y
    counts_here e =
        let own : f (item_at s.slots s.queries y) ≡ true =
        ap f (ap (item_at s.slots s.queries) e ∙ slot_item s.slots s.queries i small) ∙ eq-eqb (slot_at s.slots i).id (slot_at s.slots i).id refl in
        rw (next_is, own, takes) (omega arith)

    pub counts_on : (y ≡ i → ⊥) → Q.up_to f (drop p (queue_of s c)) ≡ left_at s.slots y + Q.up_to f (drop (p + 1) (queue_of s c))
    counts_on ne = let one : p + 1 ≡ suc p = omega arith in rw (one, next_is, other, takes)
      where
        other : f (item_at s.slots s.queries y) ≡ false
        other = by_test (ltb y 128)
            (λ t. let m = ltb-true y 128 t in rw (
              t,
              ne_eqb v.id (slot_at s.slots i).id (λ e.
                  ne (one_id (λ j. (slot_at s.slots j).id) h.ids y i m small (has_id v (place_held m)) e)),
            ))
            (λ g. rw g)

  pub counts_end : Q.up_to f (drop (len_of s c) (queue_of s c)) ≡ 0
  counts_end =
      let n : length (queue_of s c) ≡ len_of s c = length-map (places s c) (item_at s.slots s.queries) ∙ places_length s w h.laid c h.class in
      ap (λ (k : ℕ). Q.up_to f (drop k (queue_of s c))) (sym n) ∙ ap (Q.up_to f) (drop_all (queue_of s c))
    where
      drop_all : (l : List Q.Item) → drop (length l) l ≡ []
      drop_all [] = refl
      drop_all (e ∷ l) = drop_all l

-- each queue of a sound site can be counted
pub countable : (x : State) → Shaped x.site → RightCells x → SoundState x → (c : ℕ) → c < 16 → Countable x.site c
countable x w r q c l = record {
  laid = q.laid;
  class = l;
  ids = q.ids_differ;
  within = λ p m small. by_test (eqb p 0)
      (λ t. let z : p ≡ 0 = eqb-true p 0 t in
      let a : 136 * c + p ≡ 136 * c = omega arith in
      let has : 0 < len_of x.site c = omega arith in
      let first = rw a at small in
      rw a (omega (
        arith,
        (head_sound x w r q c l has first).within,
        ops_count (slot_at x.site.slots (get_or x.site.queue (136 * c) 0)) (w.ops _ first) (head_held x w r q c l has first),
      )))
      (λ f. let ne = eqb-false p 0 f in
      let none : (slot_at x.site.slots (get_or x.site.queue (136 * c + p) 0)).done ≡ 0 =
      (rw (lt-ltb (get_or x.site.queue (136 * c + p) 0) 128 small) at ((places_in x.site w x.committed x.working q c l p m).follows (omega arith)).untouched.0) in
      omega arith);
}
