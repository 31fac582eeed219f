-- The sum that stands with a class, as a walk over its places adds it up. Assumes nothing.
use Prim.Native.Nat.{ℕ, suc, ◌+◌, ◌*◌, ◌-◌, ◌<◌}
use native.Mathlib.Omega.{arith}
use native.Mathlib.Numerals.{add-one}
use mathlib.Core.Path.{◌≡◌, refl, sym, ap, ◌∙◌}
use mathlib.Core.Logic.{◌⊎◌, inl, inr}
use mathlib.Core.Bool.{cond}
use mathlib.Core.List.{List, [], ◌∷◌}
use lib.Dec.{eqb, ltb}
use lib.ListN.{length, get_or}
use borrow.Author.Tests.{eqb-true, eqb-false, lt-ltb, le-ltb, ltb-true}
use Rattle.plain.specs.Queue.{confirmed_costs, is_confirmed, left}
use Rattle.plain.specs.Site.{sum}
use Rattle.plain.proofs.Tests.{by_test}
use Rattle.plain.proofs.Sums.{sum_front, sum_same}
use Rattle.plain.proofs.Costs.{costs_more}
use Rattle.slots.specs.Meaning.{slot_free, request_of, slot_at}
use Rattle.slots.proofs.Records.{ops_count}
use Rattle.slots.specs.Rules.{Holds}
use Rattle.slots.specs.declared.Slot.{Slot}
use Rattle.store.specs.Store.{Store, Shaped}
use Rattle.store.specs.Meaning.{item_at, items, len_of, places, queue_of}
use Rattle.store.specs.Sound.{Once, Short, SlotsOk, SumsOk}
use Rattle.store.specs.Checks.{SumsIn, due, due_in, nth, sum_over}
use Rattle.store.proofs.Walk.{long, place_at}
use Rattle.store.proofs.Places.{in_range}

-- a walk
pub none_summed : (due : ℕ → ℕ) (queue : List ℕ) (a : ℕ) → 0 ≡ sum_over due queue a 0
unfolding sum_over sum
none_summed due queue a = refl

pub one_summed : (due : ℕ → ℕ) (queue : List ℕ) (a p : ℕ) → sum_over due queue a (p + 1) ≡ sum_over due queue a p + due (nth queue (a + p))
unfolding sum_over sum
one_summed due queue a p = rw add-one refl

module _ (s : Store) (w : Shaped s) (ok : SlotsOk s) where
  -- what a place takes
  slot_due : (i : ℕ) (v : Slot) → length v.ops ≡ 7 → (v ≡ slot_free) ⊎ Holds v
      → cond (ltb 0 v.number) (length (request_of v).ops - v.done) 0 ≡ due v.number v.count v.done
  slot_due i v n (inl e) = rw e
  slot_due i v n (inr h) = rw (ops_count v n h) (by_number v.number (v.count - v.done))
    where
      by_number : (m k : ℕ) → cond (ltb 0 m) k 0 ≡ cond (eqb m 0) 0 k
      by_number m k = by_test (eqb m 0)
          (λ t. let e = eqb-true m 0 t in rw (t, le-ltb 0 m (omega arith)))
          (λ f. let ne = eqb-false m 0 f in rw (f, lt-ltb 0 m (omega arith)))

  place_due : (b : ℕ) → b < 136 → cond (is_confirmed (item_at s.slots s.queries b)) (left (item_at s.slots s.queries b)) 0 ≡ due_in s.slots b
  place_due b l = by_test (ltb b 128)
      (λ t. let k = ltb-true b 128 t in rw t (slot_due b (slot_at s.slots b) (w.ops b k) (ok b k)))
      (λ f. rw (f, lt-ltb b 136 l))

  list_due : (ps : List ℕ) → ((p : ℕ) → p < length ps → get_or ps p 0 < 136)
      → confirmed_costs (items s.slots s.queries ps) ≡ sum (λ p. due_in s.slots (get_or ps p 0)) (length ps)
  unfolding confirmed_costs sum
  list_due [] h = refl
  list_due (b ∷ ps) h =
      costs_more (item_at s.slots s.queries b) (items s.slots s.queries ps)
      ∙ omega (arith, place_due b (h 0 (omega arith)), list_due ps (λ p k. h (suc p) (omega arith)), sum_front (λ p. due_in s.slots (get_or (b ∷ ps) p 0)) (length ps))

  module _ (short : Short s.lens) (once : Once s) where
    of_class : (c : ℕ) → c < 16 → confirmed_costs (queue_of s c) ≡ sum_over (due_in s.slots) s.queue (136 * c) (len_of s c)
    unfolding sum_over
    of_class c l =
        list_due (places s c) (λ p k. let g : p < len_of s c = omega (arith, count) in rw (place_at s w c l (short c l) p g) (in_range s w short once c l p g))
        ∙ ap (λ (n : ℕ). sum (λ p. due_in s.slots (get_or (places s c) p 0)) n) count
        ∙ sum_same _ _ (len_of s c) (λ p k. ap (due_in s.slots) (place_at s w c l (short c l) p k))
      where
        count : length (places s c) ≡ len_of s c
        count = long s w c l (short c l)

    -- the rule of the sums, by places and by queues
    pub sums_of : SumsIn (due_in s.slots) s.queue s.lens s.sums → SumsOk s
    sums_of h c l = h c l ∙ sym (of_class c l)

    pub sums_in : SumsOk s → SumsIn (due_in s.slots) s.queue s.lens s.sums
    sums_in h c l = h c l ∙ of_class c l
