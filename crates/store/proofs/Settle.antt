-- The head of a class before a query's entry enters: left where there is none, or it is confirmed or an entry; put back where it waits. Assumes nothing.
use Prim.Native.Nat.{ℕ, suc, ◌<◌, ◌≤◌}
use native.Mathlib.Omega.{arith}
use mathlib.Core.Path.{◌≡◌, refl, sym, ap, ◌∙◌, subst}
use mathlib.Core.Logic.{◌⊎◌, inl, inr}
use mathlib.Core.Bool.{true, and-false}
use mathlib.Core.List.{List, [], ◌∷◌}
use lib.Dec.{ltb}
use lib.ListN.{length, drop}
use borrow.Author.Tests.{eq-eqb, ne_eqb, lt-ltb, le-ltb}
use Rattle.plain.specs.Queue as Q
use Rattle.plain.specs.Steps as K
use Rattle.plain.proofs.Tests.{by_test}
use Rattle.slots.specs.declared.Slot.{Slot}
use Rattle.slots.specs.Meaning.{entry_of, is_used, slot_at}
use Rattle.slots.specs.Rules.{Holds}
use Rattle.store.specs.Store.{Store, Shaped}
use Rattle.store.specs.Meaning.{len_of, places, item_at, items, queue_of, cells_of, plain, plain_class}
use Rattle.store.specs.Sound.{Laid, times, stands}
use Rattle.store.specs.Steps.{with_slot, head_slot, as_put_back, PutBack}
use Rattle.store.proofs.Canonical.{slot_item, slot_stands, stands_there}
use Rattle.store.proofs.Relaid.{items_kept}
use Rattle.store.proofs.Commit.{head_is, stands_class}
use Rattle.store.proofs.Confirm.{back_queue, holds_kept}
use Rattle.store.proofs.Work.{kept_laid}
use Rattle.store.proofs.Queried.{Settled, settled_on}

-- nothing to put back
pub settle_empty : (s : Store) (base wrk : List ℕ) (c : ℕ) → Laid s → len_of s c ≡ 0 → Settled s s base wrk wrk c
unfolding plain plain_class
settle_empty s base wrk c h z = record {
  laid = h;
  class = let e : queue_of s c ≡ [] = rw z in rw e;
  others = λ d l ne. refl;
  counts = (refl, refl, refl);
  kept = refl;
  queries = refl;
  sums = refl;
}

module _ (s : Store) (w : Shaped s) (h : Laid s) (c : ℕ) (l : c < 16) (some : 0 < len_of s c) (base wrk : List ℕ) where
  abbrev hd : ℕ
  hd = head_slot s c

  abbrev u : Slot
  u = slot_at s.slots (head_slot s c)

  abbrev rest : List Q.Item
  rest = items s.slots s.queries (drop 1 (places s c))

  head_queue : queue_of s c ≡ item_at s.slots s.queries hd ∷ rest
  head_queue = ap (items s.slots s.queries) (head_is s w h c l some)

  pub settle_confirmed : (128 ≤ hd) ⊎ (0 < u.number) → Settled s s base wrk wrk c
  unfolding plain plain_class
  settle_confirmed y = record {
    laid = h;
    class = ap (λ (q : List Q.Item). K.class_with q (cells_of base c) (cells_of wrk c)) head_queue
        ∙ sym (ap (λ (q : List Q.Item). settled_on q (cells_of base c) (cells_of wrk c)) head_queue ∙ rw (sure y));
    others = λ d l ne. refl;
    counts = (refl, refl, refl);
    kept = refl;
    queries = refl;
    sums = refl;
  }
    where
      sure : (128 ≤ hd) ⊎ (0 < u.number) → Q.is_confirmed (item_at s.slots s.queries hd) ≡ true
      sure (inl z) = rw (le-ltb hd 128 z)
      sure (inr z) = by_test (ltb hd 128) (λ t. rw t (lt-ltb 0 u.number z)) (λ f. rw f)

  -- a request that waits
  module _ (small : hd < 128) (holds : Holds u) (waiting : u.number ≡ 0) (a : Store) (wrk' : List ℕ) (b : PutBack s base wrk c a wrk') where
    abbrev a₁ : Store
    a₁ = with_slot s (head_slot s c) (as_put_back (slot_at s.slots (head_slot s c)))

    inside : hd < length s.slots
    inside = omega (arith, w.slots, small)

    here : suc (times hd (drop 1 (places s c))) ≡ stands c u
    here = (rw (eq-eqb hd hd refl) at (ap (times hd) (sym (head_is s w h c l some)) ∙ h.exactly_once c hd l)) ∙ slot_stands s c hd small

    of_class : u.class ≡ c
    of_class = stands_class c u (times hd (drop 1 (places s c))) (sym here)

    gone : times hd (drop 1 (places s c)) ≡ 0
    gone = let one : stands c u ≡ 1 = subst (λ (d : ℕ). stands d u ≡ 1) of_class (stands_there u holds) in omega (arith, here)

    back_is : queue_of a₁ c ≡ K.put_back (Q.booking (entry_of hd u)) ∷ rest
    back_is = ap (items a₁.slots s.queries) (head_is s w h c l some) ∙ back_queue s.slots s.queries hd (drop 1 (places s c)) inside small gone

    settled₁ : Settled s a₁ base wrk wrk' c
    unfolding plain plain_class
    settled₁ = record {
      laid = kept_laid s w h hd small (as_put_back u) refl refl (holds_kept u (as_put_back u) refl refl refl holds);
      class = ap (λ (q : List Q.Item). K.class_with q (cells_of base c) (cells_of wrk' c)) back_is
          ∙ ap (λ (v : List ℕ). K.class_with (K.put_back (Q.booking (entry_of hd u)) ∷ rest) (cells_of base c) v) b.own
          ∙ sym (ap (λ (q : List Q.Item). settled_on q (cells_of base c) (cells_of wrk c)) (head_queue ∙ ap (λ (x : Q.Item). x ∷ rest) (slot_item s.slots s.queries hd small))
          ∙ rw (le-ltb 0 u.number (omega (arith, waiting))));
      others = λ d m ne. λ j. record {
        queue = items_kept s.slots hd (as_put_back u) inside s.queries (places s d)
            (h.exactly_once d hd m ∙ slot_stands s d hd small ∙ rw (of_class, ne_eqb c d (λ e. ne (sym e)), and-false (is_used u))) j;
        committed = cells_of base d;
        working = b.others d ne j;
      };
      counts = (refl, refl, refl);
      kept = refl;
      queries = refl;
      sums = refl;
    }

    pub settle_back : Settled s a base wrk wrk' c
    settle_back = subst (λ (z : Store). Settled s z base wrk wrk' c) (sym b.is) settled₁
