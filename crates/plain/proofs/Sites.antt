-- A step in one class of a site, what an accepted call's refusals tell, and what a call brings and takes. Assumes nothing.
use Prim.Native.Nat.{ℕ, zero, suc, ◌+◌, ◌/◌, ◌<◌, ◌≤◌}
use native.Mathlib.Omega.{arith}
use mathlib.Core.Path.{◌≡◌, refl, ap, ◌∙◌}
use mathlib.Core.Logic.{inl, inr}
use mathlib.Core.Bool.{Bool, true, false, not, cond, and-false}
use mathlib.Core.Option.{Option}
use mathlib.Core.List.{List, [], ◌∷◌}
use lib.Dec.{ltb, eqb}
use lib.ListN.{length, get_or}
use borrow.Author.Tests.{eqb-true, eqb-false, eq-eqb, ne_eqb, leb-false, ltb-true, ltb-false, not-true, not-false}
use Rattle.plain.specs.Ops.{valid}
use Rattle.plain.specs.Record.{is_record, record_rules, request, request_in}
use Rattle.plain.specs.Queue.{Item, booking, reading, id_is, slot_is, number_is, place_is, line, any, count, has, asked}
use Rattle.plain.specs.Steps.{Class, Did, idle}
use Rattle.plain.specs.Site.{Site, offer, work, confirm, read, look, query, accepts, refusal, row, tests}
use Rattle.plain.specs.Site.{sum, standing, class_of, entry_at, confirmed_at, is_free, slot_free, number_queued, is_kept}
use Rattle.plain.specs.Site.{at_class, in_class, bits, named, is_open, free_place}
use Rattle.plain.specs.Sound.{All, OfRequest, InOrder, Waiting, SoundSite, Placed, Belongs}
use Rattle.plain.proofs.Tests.{by_test, no, all_true}
use Rattle.plain.proofs.Sums.{lowest_passes, lowest_is, lowest_from, lowest_none, sum_add, sum_zero, sum_same, sum_le, sum_const}
use Rattle.plain.proofs.Sums.{sum_one, sum_term, sum_pair, sum_change, exchange}
use Rattle.plain.proofs.Items.{is_valid}
use Rattle.plain.proofs.Queues.{all_map, count_some, count_none, none_passes}
use Rattle.plain.proofs.Table.{none_holds, rising}

-- ONE CLASS of the site is changed
pub at_same : (c : ℕ) (k : Class) (f : ℕ → Class) → at_class c k f c ≡ k
at_same c k f = rw (eq-eqb c c refl)

pub at_other : (c : ℕ) (k : Class) (f : ℕ → Class) (d : ℕ) → (d ≡ c → ⊥) → at_class c k f d ≡ f d
at_other c k f d n = rw (ne_eqb d c n)

-- COUNTS over the site
pub standing_change : (f : Item → Bool) (s : Site) (c : ℕ) (new : Option ℕ) (d : Did) → c < 16
    → standing f (in_class s c new d).site + count f (s.class c).queue ≡ standing f s + count f d.class.queue
unfolding standing
standing_change f s c new d l =
    let r = sum_change (λ e. count f (s.class e).queue) (λ e. count f ((in_class s c new d).site.class e).queue) 16 c l
    (λ e ne. ap (λ (k : Class). count f k.queue) (at_other c d.class s.class e ne)) in
    r ∙ ap (λ (k : Class). standing f s + count f k.queue) (at_same c d.class s.class)

pub standing_none : (f : Item → Bool) (s : Site) → ((c : ℕ) → c < 16 → All (λ x. f x ≡ false) (s.class c).queue) → standing f s ≡ 0
unfolding standing
standing_none f s h =
    sum_same (λ c. count f (s.class c).queue) (λ c. 0) 16 (λ c l. count_none f (s.class c).queue (h c l)) ∙ sum_zero 16

pub standing_some : (f : Item → Bool) (s : Site) (c : ℕ) → c < 16 → any f (s.class c).queue ≡ true → 1 ≤ standing f s
unfolding standing
standing_some f s c l h =
    omega (arith, count_some f (s.class c).queue h, sum_term (λ c. count f (s.class c).queue) 16 c l)

-- what passes a test that one request passes at most stands in one class
pub one_class : (f : Item → Bool) (s : Site) → standing f s ≤ 1 → (c d : ℕ) → c < 16 → d < 16 → any f (s.class c).queue ≡ true
    → any f (s.class d).queue ≡ true → c ≡ d
unfolding standing
one_class f s u c d l m x y =
    by_test (eqb c d)
    (λ t. eqb-true c d t)
    (λ g. let ne : c ≡ d → ⊥ = eqb-false c d g in
    by_test (ltb c d)
    (λ t. absurd (omega (arith, more, sum_pair (λ c. count f (s.class c).queue) 16 c d (ltb-true c d t) m)))
    (λ t. let le : d ≤ c = ltb-false c d t in
    absurd (omega (arith, more, sum_pair (λ c. count f (s.class c).queue) 16 d c (omega arith) l))))
  where
    more : 2 ≤ count f (s.class c).queue + count f (s.class d).queue
    more = omega (arith, count_some f (s.class c).queue x, count_some f (s.class d).queue y)

-- AN ID'S CLASS
pub class_found : (s : Site) (i : ℕ) → class_of s i < 16 → has i (s.class (class_of s i)).queue ≡ true
unfolding class_of
class_found s i l = lowest_passes (λ c. has i (s.class c).queue) 0 16 l

pub class_is : (s : Site) (i c : ℕ) → SoundSite s → c < 16 → has i (s.class c).queue ≡ true → class_of s i ≡ c
unfolding class_of
class_is s i c w l h =
    lowest_is (λ c. has i (s.class c).queue) 0 16 c (omega arith) l h (λ d n t. one_class (id_is i) s (w.ids i) d c n l t h)

pub not_queued : (s : Site) (i : ℕ) → 16 ≤ class_of s i → standing (id_is i) s ≡ 0
unfolding class_of
not_queued s i n =
    standing_none (id_is i) s (λ c l. none_passes (id_is i) (s.class c).queue
    (lowest_none (λ c. has i (s.class c).queue) 0 16 n c (omega arith) l))

-- SLOTS: as many stand in queues as requests are queued, so below 128 requests the lowest free slot is below 128
abbrev pub SlotBelow : ℕ → Item → Type 0
SlotBelow n = OfRequest (λ e. e.slot < n)

slots_of : (n : ℕ) (q : List Item) → All (SlotBelow n) q → sum (λ i. count (slot_is i) q) n ≡ length (asked q)
slots_of n [] h = sum_zero n
slots_of n (booking e ∷ q) h =
    let r = slots_of n q h.1 in
    sum_add (λ i. cond (slot_is i (booking e)) 1 0) (λ i. count (slot_is i) q) n ∙ omega (arith, sum_one e.slot n h.0)
slots_of n (reading p b ∷ q) h = sum_add (λ i. 0) (λ i. count (slot_is i) q) n ∙ omega (arith, sum_zero n, slots_of n q h.1)

belongs_below : (c : ℕ) (x : Item) → Belongs c x → SlotBelow 128 x
belongs_below c (booking e) b = b.slot_below
belongs_below c (reading p n) b = tt

pub slots_below : (s : Site) → SoundSite s → (c : ℕ) → c < 16 → All (SlotBelow 128) (s.class c).queue
slots_below s w c l = all_map (Belongs c) (SlotBelow 128) (belongs_below c) (s.class c).queue (w.each c l).belong

pub slots_queued : (s : Site) → SoundSite s → sum (λ i. standing (slot_is i) s) 128 ≡ number_queued s
unfolding standing number_queued
slots_queued s w =
    exchange (λ i c. count (slot_is i) (s.class c).queue) 128 16
    ∙ sum_same _ _ 16 (λ c l. slots_of 128 (s.class c).queue (slots_below s w c l))

pub room : (s : Site) → SoundSite s → number_queued s < 128 → slot_free s < 128
unfolding slot_free is_free
room s w m = by_test (ltb (slot_free s) 128) (λ t. ltb-true _ _ t) (λ f. absurd (full (ltb-false _ _ f)))
  where
    used : 128 ≤ slot_free s → (i : ℕ) → i < 128 → 1 ≤ standing (slot_is i) s
    used g i l =
        let ne = eqb-false (standing (slot_is i) s) 0 (lowest_none (λ i. eqb (standing (slot_is i) s) 0) 0 128 g i (omega arith) l) in omega arith

    full : 128 ≤ slot_free s → ⊥
    full g = omega (arith, sum_le (λ i. 1) (λ i. standing (slot_is i) s) 128 (used g), sum_const 1 128, slots_queued s w)

pub free : (s : Site) → slot_free s < 128 → standing (slot_is (slot_free s)) s ≡ 0
unfolding slot_free is_free
free s l = eqb-true _ 0 (lowest_passes (λ i. eqb (standing (slot_is i) s) 0) 0 128 l)

-- NUMBERS above the count of confirmations stand nowhere
above : (m top j : ℕ) (q : List Item) → top < j → InOrder m top q → All (λ x. number_is j x ≡ false) q
above m top j [] l o = tt
above m top j (x ∷ q) l (inl o) = (not_so x o.1, above (line x) top j q l o.2)
  where
    not_so : (x : Item) → line x ≤ top → number_is j x ≡ false
    not_so (booking e) o = rw (ne_eqb e.number j (λ h. omega arith)) (and-false (ltb 0 j))
    not_so (reading p b) o = refl
above m top j (x ∷ q) l (inr o) = all_map Waiting (λ x. number_is j x ≡ false) none (x ∷ q) o
  where
    none : (x : Item) → Waiting x → number_is j x ≡ false
    none (booking e) w = rw (ne_eqb e.number j (λ h. omega arith)) (and-false (ltb 0 j))
    none (reading p b) w = refl

pub number_unused : (s : Site) → SoundSite s → (j : ℕ) → s.confirmations < j → standing (number_is j) s ≡ 0
number_unused s w j l =
    standing_none (number_is j) s (λ c m. above 0 s.confirmations j (s.class c).queue l (w.each c m).order)

-- WHAT AN ACCEPTED CALL'S REFUSALS TELL
pub work_accepted : (s : Site) (c : ℕ) → accepts s (work c) ≡ true → (c < 16) × (idle (s.class c).queue ≡ false)
unfolding refusal
work_accepted s c a =
    let p = none_holds (row 2) (tests s (work c)) (rising s (work c)) (eqb-true _ 0 a) in
    (leb-false _ _ p.0, p.1.0)

pub record Offered (s : Site) (b : List ℕ) : Type 0 where
  pub valid : valid (request_in b) ≡ true
  pub class : (request_in b).class < 16
  pub unknown : 16 ≤ class_of s (request_in b).id
  pub new : is_kept s (request_in b).id ≡ false
  pub few : number_queued s < 128

pub record_valid : (b : List ℕ) → is_record b ≡ true → valid (request_in b) ≡ true
unfolding is_record
record_valid b t = (all_true (record_rules b) t).1.1.1.1.0

pub offer_accepted : (s : Site) (b : List ℕ) → accepts s (offer b) ≡ true → Offered s b
unfolding refusal request
offer_accepted s b a =
    let p = none_holds (row 2) (tests s (offer b)) (rising s (offer b)) (eqb-true _ 0 a) in
    let v : valid (request_in b) ≡ true = by_test (is_record b) (λ t. record_valid b t) (λ f. no _ refl (rw f at p.0)) in
    record {
      valid = v;
      class = (is_valid (request_in b) v).class;
      unknown = ltb-false _ _ p.1.0;
      new = p.1.1.0;
      few = leb-false _ _ p.1.1.1.0;
    }

pub record Confirmable (s : Site) (i n : ℕ) : Type 0 where
  pub next : n ≡ s.confirmations + 1
  pub known : class_of s i < 16
  pub waits : confirmed_at (entry_at s i) ≡ false
  pub last : s.confirmations < 4294967295

pub confirm_accepted : (s : Site) (i n : ℕ) → accepts s (confirm i n) ≡ true → Confirmable s i n
unfolding refusal
confirm_accepted s i n a =
    let p = none_holds (row 2) (tests s (confirm i n)) (rising s (confirm i n)) (eqb-true _ 0 a) in
    record {
      next = eqb-true _ _ (not-false _ p.1.0);
      known = ltb-true _ _ (not-false _ p.1.1.0);
      waits = p.1.1.1.0;
      last = leb-false _ _ p.0;
    }

pub read_accepted : (s : Site) (c k : ℕ) → accepts s (read c k) ≡ true → c < 16
unfolding refusal
read_accepted s c k a = leb-false _ _ (none_holds (row 2) (tests s (read c k)) (rising s (read c k)) (eqb-true _ 0 a)).0

pub look_accepted : (s : Site) (i : ℕ) → accepts s (look i) ≡ true → class_of s i < 16
unfolding refusal
look_accepted s i a = ltb-true _ _ (not-false _ (none_holds (row 2) (tests s (look i)) (rising s (look i)) (eqb-true _ 0 a)).0)

-- a mask names classes below 16
bits_below : (k n c : ℕ) → get_or (bits k n) c false ≡ true → c < k
unfolding bits
bits_below zero n c h = no _ h refl
bits_below (suc k) n zero h = omega arith
bits_below (suc k) n (suc c) h = let r = bits_below k (n / 2) c h in omega arith

pub named_below : (m c : ℕ) → named m c ≡ true → c < 16
unfolding named
named_below m c h = bits_below 16 m c h

-- the place of an accepted query is one of the 8, and no entry has it
pub record Beginnable (s : Site) : Type 0 where
  pub placed : Placed (free_place s)
  pub unused : standing (place_is (free_place s)) s ≡ 0
  pub last : s.queries < 4294967295

pub query_accepted : (s : Site) (m : ℕ) → accepts s (query m) ≡ true → Beginnable s
unfolding refusal free_place is_open
query_accepted s m a =
    let p = none_holds (row 2) (tests s (query m)) (rising s (query m)) (eqb-true _ 0 a) in
    let l : free_place s ≤ 8 = ltb-false 8 (free_place s) p.1.0 in
    record {
      placed = record { from_1 = lowest_from (λ p. not (is_open s p)) 1 8; to_8 = l };
      unused = omega (arith, ltb-false 0 (standing (place_is (free_place s)) s) (not-true _ (lowest_passes (λ p. not (is_open s p)) 1 8 (omega arith))));
      last = leb-false _ _ p.1.1.0;
    }
