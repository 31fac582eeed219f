-- The rules of a sound site say of the arrays what the theory's rules say of the plain queues, both ways. Assumes nothing.
use Prim.Native.Nat.{ℕ, zero, suc, ◌+◌, ◌-◌, ◌<◌, ◌≤◌}
use native.Mathlib.Omega.{arith}
use mathlib.Core.Path.{◌≡◌, refl, sym, ap, ◌∙◌, subst}
use mathlib.Core.Logic.{◌⊎◌, inl, inr, ◌↔◌}
use mathlib.Core.Bool.{Bool, true, false, cond}
use mathlib.Core.List.{List, [], ◌∷◌}
use lib.Dec.{eqb, ltb}
use lib.ListN.{length}
use borrow.Author.Tests.{eqb-true, eqb-false, eq-eqb, ne_eqb, lt-ltb, ltb-true, ltb-false}
use Rattle.plain.specs.Queue.{Entry, Item, booking, reading, id_of, id_is, slot_is, number_is, place_is, reading_is, count}
use Rattle.plain.specs.Site.{sum, standing, named}
use Rattle.plain.specs.Sound.{All, Belongs, AtMost, Working, SoundSite, Differ, strange}
use Rattle.plain.proofs.Tests.{by_test, no}
use Rattle.plain.proofs.Sums.{sum_apart, sum_nothing, sum_pair, sum_term}
use Rattle.slots.specs.declared.Slot.{Slot}
use Rattle.slots.specs.Meaning.{slot_free, entry_of, slot_at, is_used}
use Rattle.slots.specs.Rules.{Holds}
use Rattle.queries.specs.declared.Query.{Query}
use Rattle.store.specs.Store.{Store, query_at}
use Rattle.store.specs.Meaning.{places, item_at, items, queue_of, kept_at, plain_class, plain}
use Rattle.store.specs.Sound.{Laid, Sound, SumsOk, Rest, Cells, times}
use Rattle.store.specs.Checks.{Mine, Reading, Stays}
use Rattle.store.proofs.Canonical.{has_class, has_id, stands_there, slot_item, query_item, slot_stands, query_stands}
use Rattle.store.proofs.Once.{stays_of, reading_small}
use Rattle.store.proofs.Standing.{used_small, passing, standing_is}

working_of : (q : List Item) (base w : List ℕ) → Cells q base w → Rest q → Working q base w
working_of [] base w c r = c
working_of (e ∷ q) base w c r = (c, r)

cells_of : (q : List Item) (base w : List ℕ) → Working q base w → Cells q base w × Rest q
cells_of [] base w h = (h, tt)
cells_of (e ∷ q) base w h = h

-- what holds of each place that may stand in a queue holds of what stands there
all_items : (P : ℕ → Type 0) (Q : Item → Type 0) (l : List Slot) (qs : List Query) → ((x : ℕ) → P x → Q (item_at l qs x)) → (ps : List ℕ) → All P ps → All Q (items l qs ps)
all_items P Q l qs f [] h = tt
all_items P Q l qs f (x ∷ ps) h = (f x h.0, all_items P Q l qs f ps h.1)

item_of_all : (Q : Item → Type 0) (l : List Slot) (qs : List Query) (i : ℕ) (ps : List ℕ) → All Q (items l qs ps) → 0 < times i ps → Q (item_at l qs i)
item_of_all Q l qs i [] h u = absurd (omega arith)
item_of_all Q l qs i (x ∷ ps) h u =
    by_test (eqb x i)
    (λ t. subst (λ (j : ℕ). Q (item_at l qs j)) (eqb-true x i t) h.0)
    (λ f. item_of_all Q l qs i ps h.1 (rw f at u))

-- what holds of everything queued holds of the request in each slot with a record
pub held_queued : (s : Store) → Laid s → (Q : Item → Type 0) → ((c : ℕ) → c < 16 → All Q (queue_of s c)) → (i : ℕ) → i < 128 → Holds (slot_at s.slots i)
    → Q (booking (entry_of i (slot_at s.slots i)))
held_queued s h Q all i m v =
    let c = (slot_at s.slots i).class in
    let l = has_class (slot_at s.slots i) v in
    subst Q (slot_item s.slots s.queries i m) (item_of_all Q s.slots s.queries i (places s c) (all c l)
    (omega (arith, h.exactly_once c i l, slot_stands s c i m, stands_there (slot_at s.slots i) v)))

-- by what a place names: a slot, or a query
by_place : (Q : Item → Type 0) (s : Store) (c b : ℕ) → Stays s c b → ((i : ℕ) → i < 128 → Mine s c i → Q (booking (entry_of i (slot_at s.slots i))))
    → ((p : ℕ) → Reading s c p → Q (reading (suc p) (query_at s.queries p).begun)) → Q (item_at s.slots s.queries b)
by_place Q s c b (inl h) f g = subst Q (sym (slot_item s.slots s.queries b h.0)) (f b h.0 h.1)
by_place Q s c b (inr h) f g =
    let e : 128 + (b - 128) ≡ b = omega (arith, h.0) in
    subst (λ (n : ℕ). Q (item_at s.slots s.queries n)) e (subst Q (sym (query_item s.slots s.queries (b - 128))) (g (b - 128) h.1))

-- a query's entries: as many in a queue as its place stands there
pub place_times : (s : Store) (p : ℕ) (ps : List ℕ) → count (place_is (suc p)) (items s.slots s.queries ps) ≡ times (128 + p) ps
place_times s p [] = refl
place_times s p (b ∷ ps) =
    by_test (ltb b 128)
    (λ t. let m = ltb-true b 128 t in rw (t, ne_eqb b (128 + p) (λ e. omega arith)) (omega (arith, place_times s p ps)))
    (λ f. let m = ltb-false b 128 f in by_test (eqb b (128 + p))
    (λ t. let e = eqb-true b (128 + p) t in rw (f, t, eq-eqb (suc (b - 128)) (suc p) (omega arith)) (omega (arith, place_times s p ps)))
    (λ g. let ne = eqb-false b (128 + p) g in rw (f, g, ne_eqb (suc (b - 128)) (suc p) (λ e. ne (omega arith))) (omega (arith, place_times s p ps))))

-- a request with a number exactly if it has an id is not strange
to_strange : (n i : ℕ) (e : Entry) → 0 < n → (e.number ≡ n) ↔ (id_of e ≡ i) → strange n i (booking e) ≡ false
to_strange n i e l h =
    by_test (eqb e.number n)
    (λ t. rw (lt-ltb 0 n l, t, eq-eqb (id_of e) i (h.0 (eqb-true _ n t))))
    (λ f. rw (lt-ltb 0 n l, f, ne_eqb (id_of e) i (λ z. eqb-false _ n f (h.1 z))))

from_strange : (n i : ℕ) (e : Entry) → 0 < n → strange n i (booking e) ≡ false → (e.number ≡ n) ↔ (id_of e ≡ i)
from_strange n i e l f =
    by_test (eqb e.number n)
    (λ t. by_test (eqb (id_of e) i)
    (λ u. ((λ _. eqb-true _ i u), (λ _. eqb-true _ n t)))
    (λ g. no _ (rw (lt-ltb 0 n l, t, g)) f))
    (λ t. by_test (eqb (id_of e) i)
    (λ u. no _ (rw (lt-ltb 0 n l, t, u)) f)
    (λ g. ((λ z. absurd (eqb-false _ n t z)), (λ z. absurd (eqb-false _ i g z)))))

-- what is used and passes
both : (b c : Bool) → ◌≡◌ {A = ℕ} (cond b (cond c 1 0) 0) 1 → (b ≡ true) × (c ≡ true)
both true true e = (refl, refl)
both true false e = absurd (omega arith)
both false c e = absurd (omega arith)

module _ (s : Store) (n : length s.slots ≡ 128) (k8 : length s.queries ≡ 8) (h : Laid s) where
  -- a used slot holds a record
  pub used_holds : (i : ℕ) → is_used (slot_at s.slots i) ≡ true → Holds (slot_at s.slots i)
  used_holds i u = go (h.free_or_valid i (used_small s n i u))
    where
      go : (slot_at s.slots i ≡ slot_free) ⊎ Holds (slot_at s.slots i) → Holds (slot_at s.slots i)
      go (inl e) = no _ u (ap is_used e)
      go (inr v) = v

  module _ (base wrk : List ℕ) where
    pub standing_plain : (f : Item → Bool) → ((p n : ℕ) → f (reading p n) ≡ false) → standing f (plain s base wrk) ≡ sum (passing s n f) 128
    unfolding standing plain plain_class
    standing_plain f z = standing_is s n k8 h.free_or_valid h.exactly_once f z

    -- at most one slot passes: no two do
    differ_of : (P : ℕ → Item → Bool) → ((j p n : ℕ) → P j (reading p n) ≡ false)
        → ((j x y : ℕ) → x < y → y < 128 → is_used (slot_at s.slots x) ≡ true → P j (booking (entry_of x (slot_at s.slots x))) ≡ true → P j (booking (entry_of y (slot_at s.slots y))) ≡ true → ⊥)
        → Differ P (plain s base wrk)
    differ_of P z apart j =
        let r = sum_apart (passing s n (P j)) 128 small (λ x y l m a b.
        let p = both (is_used (slot_at s.slots x)) (P j (booking (entry_of x (slot_at s.slots x)))) a in
        let q = both (is_used (slot_at s.slots y)) (P j (booking (entry_of y (slot_at s.slots y)))) b in
        apart j x y l m p.0 p.1 q.1) in
        omega (arith, standing_plain (P j) (z j))
      where
        small : (i : ℕ) → passing s n (P j) i ≤ 1
        small i = le (is_used (slot_at s.slots i)) (P j (booking (entry_of i (slot_at s.slots i))))
          where
            le : (b c : Bool) → cond b (cond c 1 0) 0 ≤ 1
            le true true = omega arith
            le true false = omega arith
            le false c = omega arith

    -- and back
    differ_at : (P : ℕ → Item → Bool) → ((j p n : ℕ) → P j (reading p n) ≡ false) → Differ P (plain s base wrk) → (j x y : ℕ) → x < y → y < 128
        → is_used (slot_at s.slots x) ≡ true → is_used (slot_at s.slots y) ≡ true
        → P j (booking (entry_of x (slot_at s.slots x))) ≡ true → P j (booking (entry_of y (slot_at s.slots y))) ≡ true → ⊥
    differ_at P z d j x y l m u v p q =
        let a : passing s n (P j) x ≡ 1 = rw (u, p) in
        let b : passing s n (P j) y ≡ 1 = rw (v, q) in
        omega (arith, d j, standing_plain (P j) (z j), sum_pair (passing s n (P j)) 128 x y l m)

    pub to_plain : Sound s base wrk → SoundSite (plain s base wrk)
    unfolding plain plain_class standing
    to_plain r = record {
      each = λ c l. record {
        belong = all_items (Stays s c) (Belongs c) s.slots s.queries
            (λ b h. by_place (Belongs c) s c b h
            (λ x k m. record { valid = (used_holds x m.used).valid; class = m.class; slot_below = k })
            (λ p m. record { from_1 = omega arith; to_8 = reading_small s k8 c p m }))
            (places s c) (stays_of s h.exactly_once c l);
        order = r.confirmed_before_waiting c l;
        working = working_of (queue_of s c) _ _ (r.working_cells_follow c l) (r.only_a_head_done c l);
      };
      slots = differ_of slot_is (λ j p n. refl) (λ j x y l m u p q. let e = eqb-true x j p in let f = eqb-true y j q in omega arith);
      ids = differ_of id_is (λ j p n. refl) (λ j x y l m u p q.
          let z = r.ids_differ x y l m (eqb-true _ j p ∙ sym (eqb-true _ j q)) in
          no _ u (rw (eq-eqb (slot_at s.slots x).id 0 z)));
      numbers = differ_of number_is (λ j p n. refl) (λ j x y l m u p q.
          let a = number_at x j p in let b = number_at y j q in
          let z = r.numbers_differ x y l m (a.1 ∙ sym b.1) in omega (arith, a.0, a.1));
      entries = one_entry;
      agree = one_count;
      tally = r.counts_agree;
      backs = λ c l. all_items (Stays s c) (AtMost (s.confirmations + s.begun)) s.slots s.queries
          (λ b h. by_place (AtMost (s.confirmations + s.begun)) s c b h (λ x k m. r.backs_bounded x k) (λ p m. omega arith))
          (places s c) (stays_of s h.exactly_once c l);
      kept_not_zero = r.kept_not_zero;
      kept_differ = r.kept_differ;
      kept_queued = λ k l. standing_plain (strange k (kept_at s k)) (λ p n. refl) ∙ sum_nothing (passing s n (strange k (kept_at s k))) 128 (λ i m.
          by_test (is_used (slot_at s.slots i))
          (λ u. rw (u, to_strange k (kept_at s k) (entry_of i (slot_at s.slots i)) l.given (r.kept_queued i m u k l)))
          (λ f. rw f));
    }
      where
        none_zero : (ps : List ℕ) → count (place_is 0) (items s.slots s.queries ps) ≡ 0
        none_zero [] = refl
        none_zero (b ∷ ps) = by_test (ltb b 128) (λ t. rw t (omega (arith, none_zero ps))) (λ f. rw (f, ne_eqb (suc (b - 128)) 0 (λ e. omega arith)) (omega (arith, none_zero ps)))

        one_entry : (c : ℕ) → c < 16 → (p : ℕ) → count (place_is p) (queue_of s c) ≤ 1
        one_entry c l zero = omega (arith, none_zero (places s c))
        one_entry c l (suc p) = omega (arith, place_times s p (places s c), h.exactly_once c (128 + p) l, query_stands s c p, at_most (named (query_at s.queries p).classes c))
          where
            at_most : (b : Bool) → cond b 1 0 ≤ 1
            at_most true = omega arith
            at_most false = omega arith

        -- and all of them have the beginning that stands in the table
        no_other : (p m : ℕ) → (m ≡ (query_at s.queries (p - 1)).begun → ⊥) → (ps : List ℕ) → count (reading_is p m) (items s.slots s.queries ps) ≡ 0
        no_other p m ne [] = refl
        no_other p m ne (b ∷ ps) =
            by_test (ltb b 128)
            (λ t. rw t (omega (arith, no_other p m ne ps)))
            (λ f. by_test (eqb (suc (b - 128)) p)
            (λ t. let e : p - 1 ≡ b - 128 = omega (arith, eqb-true (suc (b - 128)) p t) in
            rw (f, t, ne_eqb (query_at s.queries (b - 128)).begun m (λ z. ne (rw e (sym z)))) (omega (arith, no_other p m ne ps)))
            (λ g. rw (f, g) (omega (arith, no_other p m ne ps))))

        its_count : (p m : ℕ) → 0 < standing (reading_is p m) (plain s base wrk) → m ≡ (query_at s.queries (p - 1)).begun
        its_count p m k =
            by_test (eqb m (query_at s.queries (p - 1)).begun)
            (λ t. eqb-true m _ t)
            (λ f. absurd (omega (arith, sum_nothing (λ c. count (reading_is p m) (queue_of s c)) 16 (λ c l. no_other p m (eqb-false m _ f) (places s c)))))

        one_count : (p m k : ℕ) → 0 < standing (reading_is p m) (plain s base wrk) → 0 < standing (reading_is p k) (plain s base wrk) → m ≡ k
        one_count p m k a b = its_count p m a ∙ sym (its_count p k b)

        number_at : (x j : ℕ) → number_is j (booking (entry_of x (slot_at s.slots x))) ≡ true → (0 < j) × ((slot_at s.slots x).number ≡ j)
        number_at x j p = by_test (ltb 0 j)
            (λ t. (ltb-true 0 j t, eqb-true _ j (rw t at p)))
            (λ f. no _ (rw f at p) refl)

    pub from_plain : SumsOk s → SoundSite (plain s base wrk) → Sound s base wrk
    unfolding plain plain_class standing
    from_plain sums r = record {
      laid = h;
      ids_differ = λ x y l m e. by_test (is_used (slot_at s.slots x))
          (λ u. absurd (differ_at id_is (λ j p n. refl) r.ids (slot_at s.slots x).id x y l m u (rw e at u)
          (eq-eqb (slot_at s.slots x).id (slot_at s.slots x).id refl) (eq-eqb (slot_at s.slots y).id (slot_at s.slots x).id (sym e))))
          (λ f. free_id x f);
      confirmed_before_waiting = λ c l. (r.each c l).order;
      numbers_differ = λ x y l m e. by_test (ltb 0 (slot_at s.slots x).number)
          (λ t. let k = ltb-true 0 _ t in
          absurd (differ_at number_is (λ j p n. refl) r.numbers (slot_at s.slots x).number x y l m (has_number x (omega arith) k) (has_number y m (omega (arith, e)))
          (rw (t, eq-eqb (slot_at s.slots x).number (slot_at s.slots x).number refl))
          (rw (t, eq-eqb (slot_at s.slots y).number (slot_at s.slots x).number (sym e)))))
          (λ f. omega (arith, ltb-false 0 (slot_at s.slots x).number f));
      counts_agree = r.tally;
      backs_bounded = λ i l. few_backs i l (h.free_or_valid i l);
      sums_right = sums;
      only_a_head_done = λ c l. (cells_of (queue_of s c) _ _ (r.each c l).working).1;
      working_cells_follow = λ c l. (cells_of (queue_of s c) _ _ (r.each c l).working).0;
      kept_not_zero = r.kept_not_zero;
      kept_differ = r.kept_differ;
      kept_queued = λ i m u k l. from_strange k (kept_at s k) (entry_of i (slot_at s.slots i)) l.given
          (by_test (strange k (kept_at s k) (booking (entry_of i (slot_at s.slots i))))
          (λ t. let a : passing s n (strange k (kept_at s k)) i ≡ 1 = rw (u, t) in
          absurd (omega (arith, r.kept_queued k l, standing_plain (strange k (kept_at s k)) (λ p n. refl), sum_term (passing s n (strange k (kept_at s k))) 128 i m)))
          (λ f. f));
    }
      where
        few_backs : (i : ℕ) → i < 128 → (slot_at s.slots i ≡ slot_free) ⊎ Holds (slot_at s.slots i) → (slot_at s.slots i).backs ≤ s.confirmations + s.begun
        few_backs i l (inl e) = rw e (omega arith)
        few_backs i l (inr v) = held_queued s h (AtMost (s.confirmations + s.begun)) r.backs i l v

        free_id : (x : ℕ) → is_used (slot_at s.slots x) ≡ false → (slot_at s.slots x).id ≡ 0
        free_id x f = by_test (eqb (slot_at s.slots x).id 0) (λ t. eqb-true _ 0 t) (λ g. no _ (rw g) f)

        -- a slot with a number is used
        has_number : (x : ℕ) → x < 128 → 0 < (slot_at s.slots x).number → is_used (slot_at s.slots x) ≡ true
        has_number x l k = by_test (is_used (slot_at s.slots x)) (λ t. t) (λ f. absurd (go (h.free_or_valid x l) f))
          where
            go : (slot_at s.slots x ≡ slot_free) ⊎ Holds (slot_at s.slots x) → is_used (slot_at s.slots x) ≡ false → ⊥
            go (inl e) f = let z = ap (λ (v : Slot). v.number) e in omega arith
            go (inr v) f = let n = has_id (slot_at s.slots x) v in no _ (rw (ne_eqb (slot_at s.slots x).id 0 (omega arith))) f
