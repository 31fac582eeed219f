-- What stands in the queues of a laid out site: used slots of the class, and queries that have it still to read. Assumes nothing.
use Prim.Native.Nat.{ℕ, zero, suc, ◌-◌, ◌<◌, ◌≤◌}
use native.Mathlib.Omega.{arith}
use mathlib.Core.Path.{◌≡◌, refl, sym, ap, ◌∙◌}
use mathlib.Core.Logic.{◌⊎◌, inl, inr}
use mathlib.Core.Bool.{Bool, true, false, cond, ◌&&◌}
use mathlib.Core.List.{List, [], ◌∷◌}
use lib.Dec.{eqb, ltb}
use lib.ListN.{length, get_or-eq_default}
use borrow.Author.Tests.{eqb-true, eqb-false, eq-eqb, ne_eqb, ltb-true, ltb-false}
use Rattle.plain.proofs.Tests.{by_test, no}
use Rattle.plain.specs.Site.{sum, named}
use Rattle.plain.specs.Sound.{All}
use Rattle.slots.specs.Meaning.{slot_free, is_used, no_slot, slot_at}
use Rattle.slots.specs.Rules.{Holds}
use Rattle.slots.specs.declared.Slot.{Slot}
use Rattle.plain.proofs.Sums.{sum_single, sum_nothing}
use Rattle.store.proofs.Masks.{none_named}
use Rattle.store.proofs.Canonical.{has_class}
use Rattle.store.specs.Checks.{Reading, Stays}
use Rattle.store.specs.Meaning.{places}
use Rattle.store.specs.Sound.{Once, SlotsOk, stands, times}
use Rattle.queries.specs.declared.Query.{Query}
use Rattle.queries.specs.Table.{free_query}
use Rattle.store.specs.Store.{Store, query_at}

neither : (b : Bool) → ◌≡◌ {A = ℕ} (cond (b && false) 1 0) 0
neither true = refl
neither false = refl

-- a slot stands in one class
module _ (v : Slot) where
  stands_other : (d : ℕ) → (v.class ≡ d → ⊥) → stands d v ≡ 0
  stands_other d n = rw (ne_eqb v.class d n) (neither (is_used v))

  stands_later : (n : ℕ) → n ≤ v.class → sum (λ d. stands d v) n ≡ 0
  stands_later n l = sum_nothing (λ d. stands d v) n (λ d k. stands_other d (λ e. omega arith))

  stands_le : (d : ℕ) → stands d v ≤ 1
  stands_le d = le (is_used v && eqb v.class d)
    where
      le : (b : Bool) → cond b 1 0 ≤ 1
      le true = omega arith
      le false = omega arith

  stands_once : (n : ℕ) → sum (λ d. stands d v) n ≤ 1
  unfolding sum
  stands_once zero = omega arith
  stands_once (suc n) =
      by_test (eqb v.class n)
      (λ t. let e = eqb-true v.class n t in omega (arith, stands_later n (omega arith), stands_le n))
      (λ f. omega (arith, stands_once n, stands_other n (eqb-false v.class n f)))

  pub stands_in : (n : ℕ) → v.class < n → sum (λ d. stands d v) n ≡ cond (is_used v) 1 0
  stands_in n l =
      sum_single (λ d. stands d v) n v.class l (λ d ne. stands_other d (λ e. ne (sym e)))
      ∙ rw (eq-eqb v.class v.class refl) (right (is_used v))
    where
      right : (b : Bool) → ◌≡◌ {A = ℕ} (cond (b && true) 1 0) (cond b 1 0)
      right true = refl
      right false = refl

each_of : (P : ℕ → Type 0) (ps : List ℕ) → ((i : ℕ) → 0 < times i ps → P i) → All P ps
each_of P [] h = tt
each_of P (x ∷ ps) h = (h x (rw (eq-eqb x x refl) (omega arith)), each_of P ps (λ i l. h i (more i l)))
  where
    more : (i : ℕ) → 0 < times i ps → 0 < times i (x ∷ ps)
    more i l = by_test (eqb x i) (λ t. rw t (omega arith)) (λ f. rw f l)

both_true : (a b : Bool) → 0 < cond (a && b) 1 0 → (a ≡ true) × (b ≡ true)
both_true true true h = (refl, refl)
both_true true false h = absurd (omega arith)
both_true false b h = absurd (omega arith)

-- a used slot's class
pub class_of : (s : Store) → length s.slots ≡ 128 → SlotsOk s → (i : ℕ) → is_used (slot_at s.slots i) ≡ true → (slot_at s.slots i).class < 16
class_of s n h i u =
    by_test (ltb i 128)
    (λ t. go (h i (ltb-true i 128 t)))
    (λ f. no _ u (ap is_used (get_or-eq_default s.slots no_slot (omega (arith, ltb-false i 128 f)))))
  where
    go : (slot_at s.slots i ≡ slot_free) ⊎ Holds (slot_at s.slots i) → (slot_at s.slots i).class < 16
    go (inl e) = no _ u (ap is_used e)
    go (inr e) = has_class (slot_at s.slots i) e

-- a query that reads a class is one of the 8
pub reading_small : (s : Store) → length s.queries ≡ 8 → (c p : ℕ) → Reading s c p → p < 8
reading_small s n c p h =
    by_test (ltb p 8) (ltb-true p 8)
    (λ f. let z : (query_at s.queries p).classes ≡ 0 = ap (λ (q : Query). q.classes) (get_or-eq_default s.queries free_query (omega (arith, ltb-false p 8 f))) in
    no _ h (rw z (none_named c)))

module _ (s : Store) (once : Once s) where
  -- what stands in a queue is a used slot of the class, or a query that reads it
  pub stays_of : (c : ℕ) → c < 16 → All (Stays s c) (places s c)
  stays_of c l = each_of (Stays s c) (places s c) (λ b h. stays b (rw (once c b l) at h))
    where
      is_true : (a : Bool) → 0 < cond a 1 0 → a ≡ true
      is_true true h = refl
      is_true false h = absurd (omega arith)

      stays : (b : ℕ) → 0 < cond (ltb b 128) (stands c (slot_at s.slots b)) (cond (named (query_at s.queries (b - 128)).classes c) 1 0) → Stays s c b
      stays b h =
          by_test (ltb b 128)
          (λ t. let u = both_true (is_used (slot_at s.slots b)) (eqb (slot_at s.slots b).class c) (rw t at h) in
          inl (ltb-true b 128 t, record { used = u.0; class = eqb-true (slot_at s.slots b).class c u.1 }))
          (λ f. inr (ltb-false b 128 f, is_true (named (query_at s.queries (b - 128)).classes c) (rw f at h)))
