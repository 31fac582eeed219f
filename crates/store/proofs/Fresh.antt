-- A fresh site is sound. Assumes nothing.
use Prim.Native.Nat.{ℕ, ◌%◌, ◌+◌, ◌*◌, ◌-◌, ◌<◌}
use native.Mathlib.Omega.{arith}
use mathlib.Core.Path.{◌≡◌, refl, sym, ap, ◌∙◌, subst}
use mathlib.Core.Logic.{inl}
use mathlib.Core.List.{List, [], map}
use lib.Dec.{ltb}
use lib.ListN.{length, take, drop, replicate, length-drop, length-replicate, get_or-replicate, get_or-eq_default, get_or}
use lib.Seq.{ext_get_or, length-take-le, get_or-take, get_or-drop}
use borrow.Author.Tests.{ltb-true, ltb-false}
use Rattle.plain.specs.Site as S
use Rattle.places.specs.Moves.{part}
use Rattle.plain.proofs.Tests.{by_test}
use Rattle.plain.specs.Queue.{Item, has_number, count, confirmed_costs}
use Rattle.plain.specs.Site.{sum, Recent}
use Rattle.plain.specs.Sound.{InOrder}
use Rattle.slots.specs.Meaning.{slot_free, is_used, no_slot, slot_at}
use Rattle.slots.specs.declared.Slot.{Slot}
use Rattle.plain.proofs.Sums.{sum_nothing}
use Rattle.store.specs.Calls.{fresh}
use Rattle.store.specs.Meaning.{Same, cells_of, len_of, places, plain, plain_class, queue_of}
use Rattle.store.specs.Sound.{Cells, Rest, Sound, stands, stands_at, times, Unused}
use Rattle.queries.specs.declared.Query.{Query}
use Rattle.queries.specs.Table.{free_query}
use Rattle.store.specs.Store.{query_at}
use Rattle.store.proofs.Masks.{none_named}
use Rattle.usedmap.specs.Flags.{bits_of, used_of}

module _ where
  slot_free_lem : (i : ℕ) → i < 128 → slot_at fresh.slots i ≡ slot_free
  unfolding fresh
  slot_free_lem i l = get_or-replicate 128 i slot_free no_slot l

  no_len : (c : ℕ) → c < 16 → len_of fresh c ≡ 0
  unfolding fresh
  no_len c l = get_or-replicate 16 c 0 0 l

  no_place : (c : ℕ) → c < 16 → places fresh c ≡ []
  no_place c l = ap (λ (n : ℕ). take n (part fresh.queue c)) (no_len c l)

  no_queue : (c : ℕ) → c < 16 → queue_of fresh c ≡ []
  no_queue c l = rw (no_place c l)

  no_query : (p : ℕ) → query_at fresh.queries p ≡ free_query
  unfolding fresh
  no_query p = by_test (ltb p 8)
      (λ t. get_or-replicate 8 p free_query free_query (ltb-true p 8 t))
      (λ f. get_or-eq_default (replicate 8 free_query) free_query {n = p} (omega (arith, length-replicate 8 free_query, ltb-false p 8 f)))

  stands_not : (c b : ℕ) → stands_at fresh c b ≡ 0
  stands_not c b = by_test (ltb b 128)
      (λ t. rw t (ap (stands c) (slot_free_lem b (ltb-true b 128 t))))
      (λ f. rw (f, no_query (b - 128), none_named c))

  zero_part : (c : ℕ) → c < 16 → part fresh.queue c ≡ replicate 136 0
  unfolding fresh
  zero_part c l =
      let n : length (part (replicate 2176 0) c) ≡ 136 = length-take-le 136 (drop (136 * c) (replicate 2176 0)) (omega (arith, length-drop (136 * c) (replicate {A = ℕ} 2176 0), length-replicate {A = ℕ} 2176 0)) in
      ext_get_or 0 (part (replicate 2176 0) c) (replicate 136 0) (n ∙ sym (length-replicate {A = ℕ} 136 0)) (λ i k.
      let m : i < 136 = omega arith in
      get_or-take 136 (drop (136 * c) (replicate 2176 0)) i 0 m ∙ get_or-drop (136 * c) (replicate 2176 0) i 0 ∙ get_or-replicate 2176 (136 * c + i) 0 0 (omega arith) ∙ sym (get_or-replicate 136 i 0 0 m))

  same_map : used_of fresh.low fresh.high ≡ map is_used fresh.slots
  unfolding fresh used_of bits_of
  same_map = refl

  zero_both : {n : ℕ} → n ≡ 0 → fresh.confirmations ≡ fresh.commits + n
  unfolding fresh
  zero_both e = rw e

  counts : fresh.confirmations ≡ fresh.commits + sum (λ c. count has_number (queue_of fresh c)) 16
  counts = zero_both (sum_nothing (λ c. count has_number (queue_of fresh c)) 16 (λ c l. ap (λ (q : List Item). count has_number q) (no_queue c l)))

  no_sum : (c : ℕ) → c < 16 → get_or fresh.sums c 0 ≡ 0
  unfolding fresh
  no_sum c l = get_or-replicate 16 c 0 0 l

  none_costs : confirmed_costs [] ≡ 0
  unfolding confirmed_costs
  none_costs = refl

  none_recent : (n : ℕ) → Recent fresh.confirmations n → ⊥
  unfolding fresh
  none_recent n r = omega (arith, r.given, r.within)

  none_kept : Unused fresh
  unfolding fresh
  none_kept n l k = get_or-replicate 256 (n % 256) 0 0 (omega arith)

  pub fresh_sound : (base : List ℕ) → Sound fresh base base
  fresh_sound base = record {
    laid = record {
      free_or_valid = λ i l. inl (slot_free_lem i l);
      not_longer_than_136 = λ c l. rw (no_len c l) (omega arith);
      exactly_once = λ c i l. ap (times i) (no_place c l) ∙ sym (stands_not c i);
      past_the_end_zero = λ c l. rw (no_len c l) (zero_part c l);
      map_agrees = same_map;
      unused_zero = none_kept;
      free_queries_zero = λ p z. ap (λ (q : Query). q.begun) (no_query p);
    };
    ids_differ = λ i j l m e. ap (λ (v : Slot). v.id) (slot_free_lem i (omega arith));
    confirmed_before_waiting = λ c l. subst (λ (q : List Item). InOrder 0 fresh.confirmations q) (sym (no_queue c l)) tt;
    numbers_differ = λ i j l m e. ap (λ (v : Slot). v.number) (slot_free_lem i (omega arith));
    counts_agree = counts;
    backs_bounded = λ i l. rw (slot_free_lem i l) (omega arith);
    only_a_head_done = λ c l. subst Rest (sym (no_queue c l)) tt;
    working_cells_follow = λ c l. subst (λ (q : List Item). Cells q (cells_of base c) (cells_of base c)) (sym (no_queue c l)) refl;
    sums_right = λ c l. no_sum c l ∙ sym (ap confirmed_costs (no_queue c l) ∙ none_costs);
    kept_not_zero = λ n r. absurd (none_recent n r);
    kept_differ = λ m n r. absurd (none_recent m r);
    kept_queued = λ i l u n r. absurd (none_recent n r);
  }

  zero_cells : (c : ℕ) → c < 16 → cells_of (replicate 1024 0) c ≡ replicate 64 0
  zero_cells c l =
      let n : length (cells_of (replicate 1024 0) c) ≡ 64 = length-take-le 64 (drop (64 * c) (replicate 1024 0)) (omega (arith, length-drop (64 * c) (replicate {A = ℕ} 1024 0), length-replicate {A = ℕ} 1024 0)) in
      ext_get_or 0 (cells_of (replicate 1024 0) c) (replicate 64 0) (n ∙ sym (length-replicate {A = ℕ} 64 0)) (λ i k.
      let m : i < 64 = omega arith in
      get_or-take 64 (drop (64 * c) (replicate 1024 0)) i 0 m ∙ get_or-drop (64 * c) (replicate 1024 0) i 0 ∙ get_or-replicate 1024 (64 * c + i) 0 0 (omega arith) ∙ sym (get_or-replicate 64 i 0 0 m))

  -- .. and with all cells 0 it is the fresh plain site, from which histories start
  pub fresh_means : Same (plain fresh (replicate 1024 0) (replicate 1024 0)) S.fresh
  unfolding plain plain_class S.fresh fresh
  fresh_means = record {
    class = λ c l. λ i. record { queue = no_queue c l i; committed = zero_cells c l i; working = zero_cells c l i };
    confirmations = refl;
    commits = refl;
    queries = refl;
    kept = λ n r. absurd (omega (arith, r.given, r.within));
  }
