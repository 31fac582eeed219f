-- How many requests of a site pass a test: as many as used slots whose request passes it. One law for ids, slots, numbers, the tally and the number
-- queued. Assumes nothing.
use Prim.Native.Nat.{ℕ, zero, suc, ◌+◌, ◌-◌, ◌<◌, ◌≤◌}
use native.Mathlib.Omega.{arith}
use mathlib.Core.Path.{◌≡◌, refl, ap, ◌∙◌}
use mathlib.Core.Logic.{inl, inr}
use mathlib.Core.Bool.{Bool, true, false, cond}
use mathlib.Core.List.{List, [], ◌∷◌}
use lib.Dec.{ltb}
use lib.ListN.{length, get_or-eq_default}
use borrow.Author.Tests.{le-ltb, ltb-true, ltb-false}
use Rattle.plain.specs.Queue.{Item, booking, reading, count}
use Rattle.plain.specs.Site.{sum}
use Rattle.plain.proofs.Tests.{by_test, no}
use Rattle.plain.proofs.Sums.{sum_same, sum_zero, sum_nothing, exchange}
use Rattle.plain.proofs.Queues.{all_map}
use Rattle.slots.specs.declared.Slot.{Slot}
use Rattle.slots.specs.Meaning.{entry_of, no_slot, slot_at, is_used}
use Rattle.queries.specs.declared.Query.{Query}
use Rattle.store.specs.Store.{Store, query_at}
use Rattle.store.specs.Meaning.{places, item_at, items, queue_of}
use Rattle.store.specs.Sound.{stands, times, SlotsOk, Once}
use Rattle.store.specs.Checks.{Stays}
use Rattle.store.proofs.Sums.{count_times}
use Rattle.store.proofs.Once.{stays_of, reading_small, stands_in, class_of}
use Rattle.store.proofs.Canonical.{slot_item, slot_stands}

pub count_items : (l : List Slot) (qs : List Query) (f : Item → Bool) (ps : List ℕ) → count f (items l qs ps) ≡ count (λ b. f (item_at l qs b)) ps
count_items l qs f [] = refl
count_items l qs f (x ∷ ps) = rw (count_items l qs f ps)

-- terms that are 0 add nothing
sum_more : (f : ℕ → ℕ) (n k : ℕ) → ((i : ℕ) → n ≤ i → f i ≡ 0) → sum f (n + k) ≡ sum f n
unfolding sum
sum_more f n zero h = let e : n + 0 ≡ n = omega arith in rw e
sum_more f n (suc k) h = let e : n + suc k ≡ suc (n + k) = omega arith in rw e (omega (arith, sum_more f n k h, h (n + k) (omega arith)))

module _ (s : Store) (n : length s.slots ≡ 128) where
  -- a used slot is one of the 128
  pub used_small : (i : ℕ) → is_used (slot_at s.slots i) ≡ true → i < 128
  used_small i u =
      by_test (ltb i 128) (ltb-true i 128)
      (λ f. no _ u (ap is_used (get_or-eq_default s.slots no_slot (omega (arith, ltb-false i 128 f)))))

  -- 1 where slot i is used and its request passes the test
  abbrev pub passing : (Item → Bool) → ℕ → ℕ
  passing f i = cond (is_used (slot_at s.slots i)) (cond (f (booking (entry_of i (slot_at s.slots i)))) 1 0) 0

  -- a queue place that stands somewhere is below 136
  pub stays_small : length s.queries ≡ 8 → (c b : ℕ) → Stays s c b → b < 136
  stays_small m c b (inl h) = omega (arith, h.0)
  stays_small m c b (inr h) = omega (arith, h.0, reading_small s m c (b - 128) h.1)

  -- of a test that no entry of a query passes
  module _ (q : length s.queries ≡ 8) (slots : SlotsOk s) (once : Once s) (f : Item → Bool) (none_reads : (p n : ℕ) → f (reading p n) ≡ false) where
    abbrev g : ℕ → Bool
    g i = f (booking (entry_of i (slot_at s.slots i)))

    abbrev g' : ℕ → Bool
    g' b = f (item_at s.slots s.queries b)

    in_class_lem : (c : ℕ) → c < 16 → count f (queue_of s c) ≡ sum (λ i. cond (g i) (stands c (slot_at s.slots i)) 0) 128
    in_class_lem c l =
        count_items s.slots s.queries f (places s c)
        ∙ count_times g' 136 (places s c) (all_map (Stays s c) (λ b. b < 136) (λ b h. stays_small q c b h) (places s c) (stays_of s once c l))
        ∙ sum_more (λ b. cond (g' b) (times b (places s c)) 0) 128 8 (λ b m. past b m)
        ∙ sum_same _ _ 128 (λ i m. each i m)
      where
        past : (b : ℕ) → 128 ≤ b → cond (g' b) (times b (places s c)) 0 ≡ 0
        past b m = rw (le-ltb b 128 m, none_reads (suc (b - 128)) (query_at s.queries (b - 128)).begun)

        each : (i : ℕ) → i < 128 → cond (g' i) (times i (places s c)) 0 ≡ cond (g i) (stands c (slot_at s.slots i)) 0
        each i m =
            ap (λ (x : Item). cond (f x) (times i (places s c)) 0) (slot_item s.slots s.queries i m)
            ∙ ap (λ (n : ℕ). cond (g i) n 0) (once c i l ∙ slot_stands s c i m)

    -- a used slot stands in one class
    all_stand : (i : ℕ) → sum (λ c. stands c (slot_at s.slots i)) 16 ≡ cond (is_used (slot_at s.slots i)) 1 0
    all_stand i = by_test (is_used (slot_at s.slots i))
        (λ t. stands_in (slot_at s.slots i) 16 (class_of s n slots i t))
        (λ u. sum_nothing (λ d. stands d (slot_at s.slots i)) 16 (λ d k. rw u) ∙ rw u)

    over_classes : (i : ℕ) → sum (λ c. cond (g i) (stands c (slot_at s.slots i)) 0) 16 ≡ passing f i
    over_classes i = by_test (g i)
        (λ t. rw t (all_stand i))
        (λ u. rw u (sum_zero 16 ∙ none (is_used (slot_at s.slots i))))
      where
        none : (b : Bool) → ◌≡◌ {A = ℕ} 0 (cond b 0 0)
        none true = refl
        none false = refl

    pub standing_is : sum (λ c. count f (queue_of s c)) 16 ≡ sum (passing f) 128
    standing_is =
        sum_same _ _ 16 in_class_lem
        ∙ exchange (λ c i. cond (g i) (stands c (slot_at s.slots i)) 0) 16 128
        ∙ sum_same _ _ 128 (λ i l. over_classes i)
