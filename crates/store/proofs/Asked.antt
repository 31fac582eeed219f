-- What the calls ask of the arrays, and what the plain site answers: the lowest free slot, the number queued, the class of an id. Assumes nothing.
use Prim.Native.Nat.{ℕ, suc, ◌+◌, ◌<◌, ◌≤◌}
use native.Mathlib.Omega.{arith}
use mathlib.Core.Path.{◌≡◌, refl, sym, ap, ◌∙◌, subst}
use mathlib.Core.Logic.{◌⊎◌, inl, inr}
use mathlib.Core.Bool.{Bool, true, false, not, cond}
use mathlib.Core.List.{List, [], ◌∷◌}
use lib.Dec.{eqb, ltb}
use lib.ListN.{length, get_or, length-map, get_or-map}
use borrow.Author.Tests.{eqb-true, eq-eqb, ne_eqb, lt-ltb, ltb-true, ltb-false}
use Rattle.plain.specs.Queue as Q
use Rattle.plain.specs.Site as S
use Rattle.plain.specs.Sound.{SoundSite}
use Rattle.plain.proofs.Tests.{by_test, no}
use Rattle.plain.proofs.Sums.{sum_same, sum_single, sum_term, lowest_past}
use Rattle.plain.proofs.Queues.{asked_length}
use Rattle.plain.proofs.Bounds.{entries_few}
use Rattle.plain.proofs.Sites.{class_is}
use Rattle.usedmap.specs.Flags.{used_of, first_free, count_used}
use Rattle.usedmap.proofs.Flags.{first_free_lem, first_le}
use Rattle.slots.specs.declared.Slot.{Slot}
use Rattle.slots.specs.Meaning.{slot_free, no_slot, slot_at, is_used}
use Rattle.slots.specs.Rules.{Holds}
use Rattle.queries.specs.declared.Query.{Query}
use Rattle.store.specs.Store.{Store, Shaped}
use Rattle.store.specs.Meaning.{len_of, places, item_at, items, queue_of, plain_class, plain}
use Rattle.store.specs.Sound.{times, Laid, Apart}
use Rattle.store.proofs.Sums.{sum_flags, lowest_flag}
use Rattle.store.proofs.Canonical.{has_id, has_class, stands_there, slot_stands, places_length}
use Rattle.store.proofs.Standing.{used_small, passing, standing_is}
use Rattle.store.proofs.Meant.{used_holds, standing_plain}

-- an id that a place's slot has stands in the queue; one that no place's slot has does not
pub has_of : (l : List Slot) (qs : List Query) (x : ℕ) (ps : List ℕ) → x < 128 → 0 < times x ps → Q.has (slot_at l x).id (items l qs ps) ≡ true
has_of l qs x [] m h = absurd (omega arith)
has_of l qs x (y ∷ ps) m h =
    by_test (eqb y x)
    (λ t. rw (eqb-true y x t, lt-ltb x 128 m, eq-eqb (slot_at l x).id (slot_at l x).id refl))
    (λ f. by_test (Q.id_is (slot_at l x).id (item_at l qs y)) (λ t. rw t) (λ g. rw g (has_of l qs x ps m (rw f at h))))

pub has_none : (l : List Slot) (qs : List Query) (n : ℕ) (ps : List ℕ) → ((j : ℕ) → j < 128 → 0 < times j ps → (slot_at l j).id ≡ n → ⊥) → Q.has n (items l qs ps) ≡ false
has_none l qs n [] e = refl
has_none l qs n (x ∷ ps) e =
    rw (not_it, has_none l qs n ps (λ j m h. e j m (by_test (eqb x j) (λ t. rw t (omega arith)) (λ f. rw f h))))
  where
    not_it : Q.id_is n (item_at l qs x) ≡ false
    not_it =
        by_test (ltb x 128)
        (λ t. rw (t, ne_eqb (slot_at l x).id n (e x (ltb-true x 128 t) (rw (eq-eqb x x refl) (omega arith)))))
        (λ f. rw f)

-- how many requests a queue has
abbrev is_request : Q.Item → Bool
is_request (Q.booking e) = true
is_request (Q.reading p n) = false

count_asked : (q : List Q.Item) → length (Q.asked q) ≡ Q.count is_request q
count_asked [] = refl
count_asked (Q.booking e ∷ q) = let r = count_asked q in omega arith
count_asked (Q.reading p n ∷ q) = let r = count_asked q in omega arith

-- none is free: all count
full_count : (bs : List Bool) → first_free bs ≡ length bs → count_used bs ≡ length bs
unfolding count_used first_free
full_count [] e = refl
full_count (true ∷ bs) e = ap suc (full_count bs (omega arith))
full_count (false ∷ bs) e = absurd (omega arith)

-- two slots with one id are one
pub one_id : (f : ℕ → ℕ) → Apart 128 f → (x y : ℕ) → x < 128 → y < 128 → 0 < f x → f x ≡ f y → x ≡ y
one_id f a x y l m k e =
    by_test (ltb x y)
    (λ t. let z = a x y (ltb-true x y t) m e in absurd (omega arith))
    (λ g. by_test (ltb y x)
    (λ t. let z = a y x (ltb-true y x t) l (sym e) in absurd (omega arith))
    (λ h. omega (arith, ltb-false x y g, ltb-false y x h)))

module _ (s : Store) (w : Shaped s) (h : Laid s) (base wrk : List ℕ) where
  -- a used slot stands in its class's queue, once
  pub there : (i : ℕ) → i < 128 → Holds (slot_at s.slots i) → times i (places s (slot_at s.slots i).class) ≡ 1
  there i m k = h.exactly_once (slot_at s.slots i).class i (has_class (slot_at s.slots i) k) ∙ slot_stands s (slot_at s.slots i).class i m ∙ stands_there (slot_at s.slots i) k

  not_there : (c i : ℕ) → c < 16 → i < 128 → is_used (slot_at s.slots i) ≡ false → times i (places s c) ≡ 0
  not_there c i l m f = h.exactly_once c i l ∙ slot_stands s c i m ∙ rw f

  flags_at : (i : ℕ) → get_or (used_of s.low s.high) i false ≡ is_used (slot_at s.slots i)
  flags_at i = rw h.map_agrees (get_or-map is_used s.slots i no_slot)

  flags_length : length (used_of s.low s.high) ≡ 128
  flags_length = rw (h.map_agrees, length-map) w.slots

  -- the lowest free slot
  pub free_test : (i : ℕ) → i < 128 → S.is_free (plain s base wrk) i ≡ not (is_used (slot_at s.slots i))
  unfolding S.is_free
  free_test i l =
      let e : S.standing (Q.slot_is i) (plain s base wrk) ≡ cond (is_used (slot_at s.slots i)) 1 0 =
      standing_plain s w.slots w.queries h base wrk (Q.slot_is i) (λ p n. refl)
      ∙ sum_single (passing s w.slots (Q.slot_is i)) 128 i l (λ d ne. rw (ne_eqb d i ne) (none (is_used (slot_at s.slots d))))
      ∙ rw (eq-eqb i i refl) in
      rw e (is_zero (is_used (slot_at s.slots i)))
    where
      none : (b : Bool) → ◌≡◌ {A = ℕ} (cond b 0 0) 0
      none true = refl
      none false = refl

      is_zero : (b : Bool) → eqb (cond b 1 0) 0 ≡ not b
      is_zero true = refl
      is_zero false = refl

  pub free_is : S.slot_free (plain s base wrk) ≡ first_free (used_of s.low s.high)
  unfolding S.slot_free
  free_is =
      let e = lowest_flag (used_of s.low s.high) (S.is_free (plain s base wrk)) 0 (λ i l.
      let z : 0 + i ≡ i = omega arith in rw (z, flags_at i) (free_test i (omega (arith, flags_length)))) in
      subst (λ (n : ℕ). S.lowest (S.is_free (plain s base wrk)) 0 n ≡ 0 + first_free (used_of s.low s.high)) flags_length e ∙ omega arith

  -- the number queued
  pub queued_is : S.number_queued (plain s base wrk) ≡ count_used (used_of s.low s.high)
  unfolding S.number_queued plain plain_class
  queued_is =
      sum_same (λ c. length (Q.asked (queue_of s c))) (λ c. Q.count is_request (queue_of s c)) 16 (λ c l. count_asked (queue_of s c))
      ∙ standing_is s w.slots w.queries h.free_or_valid h.exactly_once is_request (λ p n. refl)
      ∙ sum_same (passing s w.slots is_request) (λ i. cond (get_or (used_of s.low s.high) i false) 1 0) 128 (λ i l. rw flags_at)
      ∙ sym (subst (λ (n : ℕ). count_used (used_of s.low s.high) ≡ S.sum (λ i. cond (get_or (used_of s.low s.high) i false) 1 0) n) flags_length
      (sum_flags (used_of s.low s.high)))

  -- a queue is no longer than that and the 8 entries of queries that it may have
  pub room : SoundSite (plain s base wrk) → (c : ℕ) → c < 16 → len_of s c ≤ S.number_queued (plain s base wrk) + 8
  unfolding S.number_queued plain plain_class
  room q c l =
      omega (
        arith,
        asked_length (queue_of s c),
        length-map (places s c) (item_at s.slots s.queries),
        places_length s w h c l,
        entries_few (plain s base wrk) q c l,
        sum_term (λ c. length (Q.asked (queue_of s c))) 16 c l,
      )

  -- an id: its slot's class, or no class
  pub id_found : SoundSite (plain s base wrk) → (j : ℕ) → 0 < (slot_at s.slots j).id
      → (S.class_of (plain s base wrk) (slot_at s.slots j).id ≡ (slot_at s.slots j).class) × ((slot_at s.slots j).class < 16)
  unfolding plain plain_class
  id_found q j u =
      let t : is_used (slot_at s.slots j) ≡ true = rw (ne_eqb (slot_at s.slots j).id 0 (omega arith)) in
      let m = used_small s w.slots j t in
      let k = used_holds s w.slots w.queries h j t in
      let c = (slot_at s.slots j).class in (
        class_is (plain s base wrk) (slot_at s.slots j).id c q (has_class (slot_at s.slots j) k) (has_of s.slots s.queries j (places s c) m (omega (arith, there j m k))),
        has_class (slot_at s.slots j) k,
      )

  pub id_absent : (n : ℕ) → ((j : ℕ) → j < 128 → 0 < (slot_at s.slots j).id → (slot_at s.slots j).id ≡ n → ⊥) → S.class_of (plain s base wrk) n ≡ 16
  unfolding S.class_of plain plain_class
  id_absent n e = lowest_past (λ c. Q.has n (queue_of s c)) 0 16 (λ c l.
      has_none s.slots s.queries n (places s c) (λ j m u. by_test (is_used (slot_at s.slots j))
      (λ t. e j m (has_id (slot_at s.slots j) (used_holds s w.slots w.queries h j t)))
      (λ f. absurd (omega (arith, not_there c j (omega arith) m f)))))

  -- where not all are used, the lowest free slot is free and all zero
  pub lowest_is_free : count_used (used_of s.low s.high) < 128
      → (first_free (used_of s.low s.high) < 128) × (slot_at s.slots (first_free (used_of s.low s.high)) ≡ slot_free)
  lowest_is_free l =
      let i = first_free (used_of s.low s.high) in
      let m : i < 128 = omega (arith, first_le (used_of s.low s.high), flags_length, some_free (used_of s.low s.high) (omega (arith, flags_length))) in
      (m, go i (sym (flags_at i) ∙ first_free_lem (used_of s.low s.high) false (omega (arith, flags_length))) (h.free_or_valid i m))
    where
      some_free : (bs : List Bool) → count_used bs < length bs → first_free bs < length bs
      some_free bs u =
          by_test (ltb (first_free bs) (length bs)) (ltb-true (first_free bs) (length bs))
          (λ f. absurd (omega (arith, full_count bs (omega (arith, first_le bs, ltb-false (first_free bs) (length bs) f)))))

      go : (i : ℕ) → is_used (slot_at s.slots i) ≡ false → (slot_at s.slots i ≡ slot_free) ⊎ Holds (slot_at s.slots i) → slot_at s.slots i ≡ slot_free
      go i f (inl e) = e
      go i f (inr k) = let u = has_id (slot_at s.slots i) k in no _ (rw (ne_eqb (slot_at s.slots i).id 0 (omega arith))) f
