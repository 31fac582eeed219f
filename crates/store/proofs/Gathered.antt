-- The fields of the slots, gathered into lists: the gathering, and that the rules over the lists are those over the slots. Assumes nothing.
use Prim.Native.Nat.{ℕ, ◌+◌, ◌-◌, ◌<◌, ◌≤◌}
use native.Mathlib.Omega.{arith}
use mathlib.Core.Path.{◌≡◌, refl, sym, ap, ◌∙◌, subst}
use mathlib.Core.Logic.{◌⊎◌, inl, inr}
use mathlib.Core.Bool.{Bool}
use mathlib.Core.List.{List}
use lib.Dec.{ltb}
use lib.ListN.{length, set, replicate, length-set, length-replicate, get_or-replicate, get_or-eq_default}
use lib.Seq.{get_or-set_same, get_or-set_other}
use borrow.Author.Count.{below_none, below_more}
use borrow.Author.Tests.{ltb-true, ltb-false, lt-ltb, le-ltb}
use Rattle.plain.specs.Decides.{Decides}
use Rattle.plain.proofs.Deciding.{decides_as}
use Rattle.plain.proofs.Sums.{sum_same}
use Rattle.plain.proofs.Tests.{by_test}
use Rattle.slots.specs.declared.Slot.{Slot}
use Rattle.slots.specs.Meaning.{slot_free, no_slot, slot_at}
use Rattle.slots.specs.Rules.{Holds}
use Rattle.store.specs.Store.{Store, query_at}
use Rattle.queries.specs.declared.Query.{Query}
use Rattle.queries.specs.Table.{free_query}
use Rattle.store.specs.Sound.{Apart, BacksOk, SlotsOk}
use Rattle.store.specs.Checks.{Owned, Lined, KeptOk, LaidIn, LaidOut, MatchesAll, SlotsIn, Unnumbered}
use Rattle.store.specs.Checks.{classes_of, done_in, due, due_in, ids_of, line_at, line_in, mark_in, nth, numbered, numbers_of}
use Rattle.store.proofs.Canonical.{has_class, has_id}

-- one field of the first i slots
module _ (l : List Slot) (field : Slot → ℕ) where
  abbrev pub GatheredTo : List ℕ → ℕ → Type 0
  GatheredTo xs i = (length xs ≡ 128) × ((k : ℕ) → k < i → nth xs k ≡ field (slot_at l k))

  pub none_gathered : GatheredTo (replicate 128 0) 0
  none_gathered = (length-replicate {A = ℕ} 128 0, below_none _)

  pub one_gathered : (xs : List ℕ) (i : ℕ) → i < 128 → GatheredTo xs i → GatheredTo (set xs i (field (slot_at l i))) (i + 1)
  one_gathered xs i m h = (
    length-set xs i (field (slot_at l i)) ∙ h.0,
    below_more (λ k. nth (set xs i (field (slot_at l i))) k ≡ field (slot_at l k)) i
        (λ k n. get_or-set_other xs i k (field (slot_at l i)) 0 (λ e. omega arith) ∙ h.1 k n)
        (get_or-set_same xs i (field (slot_at l i)) 0 (omega (arith, h.0))),
  )

  -- past the slots both are 0
  pub all_gathered : (xs : List ℕ) (i : ℕ) → length l ≡ 128 → field no_slot ≡ 0 → 128 ≤ i → GatheredTo xs i → nth xs ≡ (λ k. field (slot_at l k))
  all_gathered xs i n z m h = λ j. λ k. each k j
    where
      each : (k : ℕ) → nth xs k ≡ field (slot_at l k)
      each k = by_test (ltb k 128)
          (λ t. let b = ltb-true k 128 t in h.1 k (omega arith))
          (λ f. let b = ltb-false k 128 f in
          get_or-eq_default xs 0 (omega (arith, h.0)) ∙ sym (ap field (get_or-eq_default l no_slot (omega arith)) ∙ z))

-- ids and classes of the first i slots
pub record OwnedTo (l : List Slot) (ids classes : List ℕ) (i : ℕ) : Type 0 where
  pub id : GatheredTo l (λ v. v.id) ids i
  pub class : GatheredTo l (λ v. v.class) classes i

pub owned_none : (l : List Slot) → OwnedTo l (replicate 128 0) (replicate 128 0) 0
owned_none l = record { id = none_gathered l (λ v. v.id); class = none_gathered l (λ v. v.class) }

module _ (l : List Slot) (ids classes : List ℕ) (i : ℕ) (h : OwnedTo l ids classes i) where
  pub owned_more : i < 128 → OwnedTo l (set ids i (slot_at l i).id) (set classes i (slot_at l i).class) (i + 1)
  owned_more m = record { id = one_gathered l (λ v. v.id) ids i m h.id; class = one_gathered l (λ v. v.class) classes i m h.class }

  pub owned_all : length l ≡ 128 → 128 ≤ i → Owned l ids classes
  owned_all n m = record {
    id = all_gathered l (λ v. v.id) ids i n refl m h.id;
    class = all_gathered l (λ v. v.class) classes i n refl m h.class;
    long = (h.id.0, h.class.0);
  }

-- by queue places: one field of what the first i name; and where the rest is all z
module _ (at : ℕ → ℕ) where
  abbrev pub LinedTo : List ℕ → ℕ → Type 0
  LinedTo xs i = (length xs ≡ 136) × ((k : ℕ) → k < i → nth xs k ≡ at k)

  abbrev pub FilledTo : List ℕ → ℕ → ℕ → Type 0
  FilledTo xs i z = LinedTo xs i × ((k : ℕ) → i ≤ k → k < 136 → nth xs k ≡ z)

  lined_more : (xs : List ℕ) (i x : ℕ) → i < 136 → LinedTo xs i → x ≡ at i → LinedTo (set xs i x) (i + 1)
  lined_more xs i x m h e = (
    length-set xs i x ∙ h.0,
    below_more (λ k. nth (set xs i x) k ≡ at k) i
        (λ k n. get_or-set_other xs i k x 0 (λ q. omega arith) ∙ h.1 k n)
        (get_or-set_same xs i x 0 (omega (arith, h.0)) ∙ e),
  )

  filled_none : (z : ℕ) → FilledTo (replicate 136 z) 0 z
  filled_none z = ((length-replicate {A = ℕ} 136 z, below_none _), (λ k _ l. get_or-replicate 136 k z 0 l))

  filled_more : (xs : List ℕ) (i x z : ℕ) → i < 136 → FilledTo xs i z → x ≡ at i → FilledTo (set xs i x) (i + 1) z
  filled_more xs i x z m h e = (
    lined_more xs i x m h.0 e,
    (λ k n l. get_or-set_other xs i k x 0 (λ q. omega arith) ∙ h.1 k (omega arith) l),
  )

  lined_all : (xs : List ℕ) (i : ℕ) → 136 ≤ i → LinedTo xs i → ((k : ℕ) → 136 ≤ k → at k ≡ 0) → nth xs ≡ at
  lined_all xs i m h z = λ j. λ k. each k j
    where
      each : (k : ℕ) → nth xs k ≡ at k
      each k = by_test (ltb k 136)
          (λ t. let b = ltb-true k 136 t in h.1 k (omega arith))
          (λ f. let b = ltb-false k 136 f in get_or-eq_default xs 0 (omega (arith, h.0)) ∙ sym (z k b))

  filled_all : (xs : List ℕ) (i z : ℕ) → 128 ≤ i → FilledTo xs i z → ((k : ℕ) → 128 ≤ k → k < 136 → at k ≡ z) → ((k : ℕ) → 136 ≤ k → at k ≡ 0) → nth xs ≡ at
  filled_all xs i z m h e n = lined_all xs 136 (omega arith) (
    h.0.0,
    (λ k l. by_test (ltb k i)
        (λ t. h.0.1 k (ltb-true k i t))
        (λ f. let g = ltb-false k i f in h.1 k g l ∙ sym (e k (omega arith) l))),
  ) n

-- all of them: of the first i slots, and the lines of the first j places
pub record StageTo (l : List Slot) (table : List Query) (lines dones marks dues : List ℕ) (i j : ℕ) : Type 0 where
  pub line : LinedTo (line_in l table) lines j
  pub done : FilledTo (done_in l) dones i 0
  pub mark : FilledTo (mark_in l) marks i 0
  pub due_is : FilledTo (due_in l) dues i 1

pub stage_none : (l : List Slot) (table : List Query) → StageTo l table (replicate 136 0) (replicate 136 0) (replicate 136 0) (replicate 136 1) 0 0
stage_none l table = record {
  line = (filled_none (line_in l table) 0).0;
  done = filled_none (done_in l) 0;
  mark = filled_none (mark_in l) 0;
  due_is = filled_none (due_in l) 1;
}

module _ (l : List Slot) (table : List Query) (lines dones marks dues : List ℕ) (i j : ℕ) (h : StageTo l table lines dones marks dues i j) where
  pub stage_more : i < 128 → j ≡ i → (x : ℕ) → x ≡ due (slot_at l i).number (slot_at l i).count (slot_at l i).done
      → StageTo l table (set lines i (slot_at l i).number) (set dones i (slot_at l i).done) (set marks i (slot_at l i).mark) (set dues i x) (i + 1) (i + 1)
  stage_more m q x e = record {
    line = lined_more (line_in l table) lines i (slot_at l i).number (omega arith) (rw q at h.line) (rw (lt-ltb i 128 m));
    done = filled_more (done_in l) dones i (slot_at l i).done 0 (omega arith) h.done (rw (lt-ltb i 128 m));
    mark = filled_more (mark_in l) marks i (slot_at l i).mark 0 (omega arith) h.mark (rw (lt-ltb i 128 m));
    due_is = filled_more (due_in l) dues i x 1 (omega arith) h.due_is (e ∙ rw (lt-ltb i 128 m));
  }

  pub line_more : (p : ℕ) → p < 8 → j ≡ 128 + p → StageTo l table (set lines (128 + p) (query_at table p).begun) dones marks dues i (128 + (p + 1))
  line_more p m q =
      let s : 128 + p - 128 ≡ p = omega arith in
      let n : 128 + p + 1 ≡ 128 + (p + 1) = omega arith in
      record {
        line = rw n at (lined_more (line_in l table) lines (128 + p) (query_at table p).begun (omega arith) (rw q at h.line) (rw (le-ltb (128 + p) 128 (omega arith), s)));
        done = h.done;
        mark = h.mark;
        due_is = h.due_is;
      }

  pub stage_all : length l ≡ 128 → length table ≡ 8 → 128 ≤ i → 136 ≤ j → Lined l table lines dones marks dues
  stage_all n m a b = record {
    line = lined_all (line_in l table) lines j b h.line (λ k o. rw (le-ltb k 128 (omega arith)) (ap (λ (v : Query). v.begun) (get_or-eq_default table free_query (omega arith))));
    done = filled_all (done_in l) dones i 0 a h.done (λ k o _. rw (le-ltb k 128 o)) (λ k o. rw (le-ltb k 128 (omega arith)));
    mark = filled_all (mark_in l) marks i 0 a h.mark (λ k o _. rw (le-ltb k 128 o)) (λ k o. rw (le-ltb k 128 (omega arith)));
    due = filled_all (due_in l) dues i 1 a h.due_is (λ k o u. rw (le-ltb k 128 o, lt-ltb k 136 u)) (λ k o. rw (le-ltb k 128 (omega arith), le-ltb k 136 o));
  }

-- what the walk over the slots looks at are two rules: each is free or valid, and the counts of times put back are bounded
pub slots_in : (s : Store) (top : ℕ) → SlotsOk s → BacksOk s.slots top → SlotsIn s.slots top
slots_in s top ok few i l = (ok i l, few i l)

pub slots_ok : (s : Store) (top : ℕ) → SlotsIn s.slots top → SlotsOk s × BacksOk s.slots top
slots_ok s top h = ((λ i l. (h i l).0), (λ i l. (h i l).1))

-- the line of a slot is its number
line_number : (l : List Slot) (table : List Query) (i : ℕ) → i < 128 → line_in l table i ≡ numbers_of l i
line_number l table i m = rw (lt-ltb i 128 m)

-- a free slot has no number
unnumbered_of : (s : Store) → SlotsOk s → Unnumbered (ids_of s.slots) (line_at s)
unnumbered_of s ok i m z = line_number s.slots s.queries i m ∙ go (ok i m)
  where
    go : (slot_at s.slots i ≡ slot_free) ⊎ Holds (slot_at s.slots i) → (slot_at s.slots i).number ≡ 0
    go (inl e) = ap (λ (v : Slot). v.number) e
    go (inr h) = absurd (omega (arith, has_id (slot_at s.slots i) h))

-- a slot's class is one of the 16
pub class_within : (v : Slot) → (v ≡ slot_free) ⊎ Holds v → v.class < 16
class_within v (inl e) = let z : v.class ≡ 0 = ap (λ (w : Slot). w.class) e in omega arith
class_within v (inr h) = has_class v h

-- the lists that the check gathers hold the fields of a site's slots and queries
pub record Gathered (s : Store) (ids classes lines dones marks dues : List ℕ) : Type 0 where
  pub owned : Owned s.slots ids classes
  pub lined : Lined s.slots s.queries lines dones marks dues

pub gathered : (s : Store) {ids classes lines dones marks dues : List ℕ} → Owned s.slots ids classes
    → Lined s.slots s.queries lines dones marks dues → Gathered s ids classes lines dones marks dues
gathered s o g = record { owned = o; lined = g }

-- two that are the same below 128 are alike to every rule of the slots' numbers
module _ {f g : ℕ → ℕ} (same : (i : ℕ) → i < 128 → f i ≡ g i) where
  alike_apart : Apart 128 f → Apart 128 g
  alike_apart h i j l m e =
      let a = same i (omega arith) in
      sym a ∙ h i j l m (a ∙ e ∙ sym (same j m))

  alike_numbered : numbered f 128 ≡ numbered g 128
  unfolding numbered
  alike_numbered = sum_same _ _ 128 (λ i l. rw (same i l))

  alike_laid : {id class line done mark due : ℕ → ℕ} {queue lens sums : List ℕ} {table : List Query} {low high top commits : ℕ}
      → LaidOut id class f line done mark due queue lens sums table low high top commits
      → LaidOut id class g line done mark due queue lens sums table low high top commits
  alike_laid h = record {
    short = h.short;
    tails = h.tails;
    map = h.map;
    once = h.once;
    differ = record { ids = h.differ.ids; numbers = alike_apart h.differ.numbers };
    places = h.places;
    sums_right = h.sums_right;
    free_zero = h.free_zero;
    tally = omega (arith, h.tally, alike_numbered);
  }

  alike_kept : {id : ℕ → ℕ} {top : ℕ} {kept : List ℕ} → KeptOk id f top kept → KeptOk id g top kept
  alike_kept {id} {top} {kept} h = record {
    filled = h.filled;
    apart = h.apart;
    matching = λ i l u. subst (λ (n : ℕ). MatchesAll top kept n (id i)) (same i l) (h.matching i l u);
  }

-- a test of the rules of a site, with these for the fields
abbrev Laying : Bool → Store → (id class number line done mark due : ℕ → ℕ) → Type 0
Laying b s id class number line done mark due =
    Decides b (LaidOut id class number line done mark due s.queue s.lens s.sums s.queries s.low s.high s.confirmations s.commits)

-- the rules over the lists are those over the slots and queries
module _ (s : Store) {ids classes lines dones marks dues : List ℕ} (g : Gathered s ids classes lines dones marks dues) where
  pub unnumbered : SlotsOk s → Unnumbered (nth ids) (nth lines)
  unnumbered ok =
      subst (λ (f : ℕ → ℕ). Unnumbered f (nth lines)) (sym g.owned.id)
      (subst (Unnumbered (ids_of s.slots)) (sym g.lined.line) (unnumbered_of s ok))

  number_line : (i : ℕ) → i < 128 → line_at s i ≡ numbers_of s.slots i
  number_line = line_number s.slots s.queries

  module _ {b : Bool} where
    pub laid_is : Laying b s (nth ids) (nth classes) (nth lines) (nth lines) (nth dones) (nth marks) (nth dues) → Decides b (LaidIn s)
    laid_is d =
        decides_as (alike_laid number_line) (alike_laid (λ i l. sym (number_line i l)))
        (subst (λ (f : ℕ → ℕ). Laying b s f (classes_of s.slots) (line_at s) (line_at s) (done_in s.slots) (mark_in s.slots) (due_in s.slots)) g.owned.id
        (subst (λ (f : ℕ → ℕ). Laying b s (nth ids) f (line_at s) (line_at s) (done_in s.slots) (mark_in s.slots) (due_in s.slots)) g.owned.class
        (subst (λ (f : ℕ → ℕ). Laying b s (nth ids) (nth classes) f f (done_in s.slots) (mark_in s.slots) (due_in s.slots)) g.lined.line
        (subst (λ (f : ℕ → ℕ). Laying b s (nth ids) (nth classes) (nth lines) (nth lines) f (mark_in s.slots) (due_in s.slots)) g.lined.done
        (subst (λ (f : ℕ → ℕ). Laying b s (nth ids) (nth classes) (nth lines) (nth lines) (nth dones) f (due_in s.slots)) g.lined.mark
        (subst (λ (f : ℕ → ℕ). Laying b s (nth ids) (nth classes) (nth lines) (nth lines) (nth dones) (nth marks) f) g.lined.due d))))))

    pub kept_is : Decides b (KeptOk (nth ids) (nth lines) s.confirmations s.kept)
        → Decides b (KeptOk (ids_of s.slots) (numbers_of s.slots) s.confirmations s.kept)
    kept_is d =
        decides_as (alike_kept number_line) (alike_kept (λ i l. sym (number_line i l)))
        (subst (λ (f : ℕ → ℕ). Decides b (KeptOk f (line_at s) s.confirmations s.kept)) g.owned.id
        (subst (λ (f : ℕ → ℕ). Decides b (KeptOk (nth ids) f s.confirmations s.kept)) g.lined.line d))
