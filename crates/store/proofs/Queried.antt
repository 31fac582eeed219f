-- A query enters class by class: after each class below c that it names, the site is laid out, and the plain classes are those of the plain query; after
-- all 16 it is the plain call. Assumes nothing.
use Prim.Native.Nat.{ℕ, suc, ◌+◌, ◌<◌, ◌≤◌}
use native.Mathlib.Omega.{arith}
use mathlib.Core.Path.{◌≡◌, refl, sym, ap, ◌∙◌, subst}
use mathlib.Core.Logic.{◌⊎◌, inl, inr}
use mathlib.Core.Bool.{Bool, true, false, cond, ◌&&◌}
use mathlib.Core.List.{List, [], ◌∷◌}
use lib.Dec.{eqb, ltb}
use lib.ListN.{length, get_or, take, drop}
use borrow.Author.Tests.{eqb-true, eqb-false, lt-ltb, le-ltb, ltb-true, ltb-false}
use Rattle.plain.specs.Queue.{Item, reading, is_confirmed, before_waiting, confirmed_costs}
use Rattle.plain.specs.Steps.{Class, class_with, begun, backed, back_cells, query_on, query_step}
use Rattle.plain.specs.Site as S
use Rattle.plain.specs.Site.{named}
use Rattle.plain.specs.Sound.{All, Waiting, SoundSite}
use Rattle.plain.proofs.Tests.{by_test}
use Rattle.plain.proofs.Costs.{query_kept}
use Rattle.queries.specs.declared.Query.{Query}
use Rattle.store.specs.Store.{Store, Shaped, query_at}
use Rattle.store.specs.Meaning.{Same, cells_of, queue_of, plain, plain_class}
use Rattle.store.specs.Sound.{Laid}
use Rattle.store.specs.Calls.{State, RightCells, SoundState, plain_of, Did}
use Rattle.store.proofs.Masks.{none_named}
use Rattle.store.proofs.Meant.{to_plain}
use Rattle.store.proofs.Promise.{sound_kept}
use Rattle.store.proofs.Entering.{Enters, enter_laid, enter_queue, enter_others, this_query}

-- a class whose head, if it waits, is put back
abbrev pub settled_on : List Item → List ℕ → List ℕ → Class
settled_on [] base w = class_with [] base w
settled_on (x ∷ rest) base w = class_with (backed x ∷ rest) base (back_cells x base w)

abbrev pub settled_class : Class → Class
settled_class k = settled_on k.queue k.committed k.working

enters_settled : (y : Item) (q : List Item) (base w : List ℕ)
    → class_with (before_waiting y (settled_on q base w).queue) (settled_on q base w).committed (settled_on q base w).working ≡ query_on y q base w
enters_settled y [] base w = refl
enters_settled y (x ∷ rest) base w = refl

-- the site t, in which the head of class c is put back if it waits, and nothing else changed
pub record Settled (s t : Store) (base wrk wrk' : List ℕ) (c : ℕ) : Type 0 where
  pub laid : Laid t
  pub class : (plain t base wrk').class c ≡ settled_class ((plain s base wrk).class c)
  pub others : (d : ℕ) → d < 16 → (d ≡ c → ⊥) → (plain t base wrk').class d ≡ (plain s base wrk).class d
  pub counts : (t.confirmations ≡ s.confirmations) × (t.commits ≡ s.commits) × (t.begun ≡ s.begun)
  pub kept : t.kept ≡ s.kept
  pub queries : t.queries ≡ s.queries
  pub sums : t.sums ≡ s.sums

-- what the mask names of the classes before c
abbrev pub before : ℕ → ℕ → ℕ → Bool
before m c d = ltb d c && named m d

-- AFTER THE CLASSES BEFORE c, of a query of mask m that takes index p when n confirmations are taken
pub record Upto (s t : Store) (base wrk wrk' : List ℕ) (m p n c : ℕ) : Type 0 where
  pub laid : Laid t
  pub class : (d : ℕ) → d < 16
      → (plain t base wrk').class d ≡ cond (before m c d) (query_step (suc p) n ((plain s base wrk).class d)) ((plain s base wrk).class d)
  pub mask : (d : ℕ) → d < 16 → named (query_at t.queries p).classes d ≡ before m c d
  pub began : ((query_at t.queries p).classes ≡ 0) ⊎ ((query_at t.queries p).begun ≡ n)
  pub sums : (d : ℕ) → d < 16 → get_or t.sums d 0 ≡ get_or s.sums d 0 + cond (before m c d) 1 0
  pub counts : (t.confirmations ≡ s.confirmations) × (t.commits ≡ s.commits) × (t.begun ≡ s.begun)
  pub kept : t.kept ≡ s.kept

before_other : (m c d : ℕ) → (d ≡ c → ⊥) → before m (suc c) d ≡ before m c d
before_other m c d ne =
    by_test (ltb d c)
    (λ t. let l = ltb-true d c t in rw (t, lt-ltb d (suc c) (omega arith)))
    (λ f. let l = ltb-false d c f in rw (f, le-ltb d (suc c) (omega arith)))

before_this : (m c : ℕ) → before m (suc c) c ≡ named m c
before_this m c = rw (lt-ltb c (suc c) (omega arith))

not_yet : (m c : ℕ) → before m c c ≡ false
not_yet m c = rw (le-ltb c c (omega arith))

-- a class that is not named
skip_is : (m c d : ℕ) → named m c ≡ false → before m (suc c) d ≡ before m c d
skip_is m c d f =
    by_test (eqb d c)
    (λ t. let e : d ≡ c = eqb-true d c t in rw e (before_this m c ∙ f ∙ sym (not_yet m c)))
    (λ g. before_other m c d (eqb-false d c g))

module _ (s t : Store) (base wrk wrk' : List ℕ) (m p n c : ℕ) (u : Upto s t base wrk wrk' m p n c) where
  pub upto_skip : named m c ≡ false → Upto s t base wrk wrk' m p n (suc c)
  upto_skip f = record {
    laid = u.laid;
    class = λ d l. rw (skip_is m c d f) (u.class d l);
    mask = λ d l. rw (skip_is m c d f) (u.mask d l);
    began = u.began;
    sums = λ d l. rw (skip_is m c d f) (u.sums d l);
    counts = u.counts;
    kept = u.kept;
  }

  -- and one that is: its head is put back if it waits, and the entry enters before the waiting
  module _ (t₁ t₂ : Store) (wrk₁ : List ℕ) (to mask : ℕ) (w : Shaped t₁) (l : c < 16) (k : p < 8) (named_here : named m c ≡ true)
      (settled : Settled t t₁ base wrk' wrk₁ c) (e : Enters t₁ t₂ c p to n mask) (fits : to ≤ length (queue_of t₁ c))
      (ahead : All (λ y. is_confirmed y ≡ true) (take to (queue_of t₁ c))) (behind : All Waiting (drop to (queue_of t₁ c)))
      (sum-own : get_or t₂.sums c 0 ≡ get_or t₁.sums c 0 + 1) (sum-others : (d : ℕ) → d < 16 → (d ≡ c → ⊥) → get_or t₂.sums d 0 ≡ get_or t₁.sums d 0) where
    new : named (query_at t₁.queries p).classes c ≡ false
    new = rw settled.queries (u.mask c l ∙ not_yet m c)

    began₁ : ((query_at t₁.queries p).classes ≡ 0) ⊎ ((query_at t₁.queries p).begun ≡ n)
    began₁ = rw settled.queries u.began

    y : Item
    y = reading (suc p) n

    own_class : (plain t₂ base wrk₁).class c ≡ query_step (suc p) n ((plain s base wrk).class c)
    unfolding plain plain_class query_step y
    own_class =
        let was : (plain t base wrk').class c ≡ (plain s base wrk).class c = u.class c l ∙ rw (not_yet m c) in
        ap (λ (q : List Item). class_with q (cells_of base c) (cells_of wrk₁ c)) (enter_queue t₁ t₂ w settled.laid c p to n mask l k new began₁ e fits ahead behind)
        ∙ ap (λ (x : Class). class_with (before_waiting y x.queue) x.committed x.working) (settled.class ∙ ap settled_class was)
        ∙ enters_settled y (queue_of s c) (cells_of base c) (cells_of wrk c)

    other_class : (d : ℕ) → d < 16 → (d ≡ c → ⊥) → (plain t₂ base wrk₁).class d ≡ (plain t base wrk').class d
    unfolding plain plain_class
    other_class d q ne =
        ap (λ (z : List Item). class_with z (cells_of base d) (cells_of wrk₁ d)) (enter_others t₁ t₂ w settled.laid c p to n mask l k new began₁ e d q ne)
        ∙ settled.others d q ne

    now : query_at t₂.queries p ≡ record { classes = mask; begun = n }
    now = this_query t₁ t₂ w settled.laid c p to n mask l k new began₁ e

    -- by cases: this class, or another
    by_class : (P : ℕ → Type 0) → P c → ((d : ℕ) → d < 16 → (d ≡ c → ⊥) → P d) → (d : ℕ) → d < 16 → P d
    by_class P a b d q = by_test (eqb d c) (λ t. subst P (sym (eqb-true d c t)) a) (λ f. b d q (eqb-false d c f))

    pub upto_more : Upto s t₂ base wrk wrk₁ m p n (suc c)
    upto_more = record {
      laid = enter_laid t₁ t₂ w settled.laid c p to n mask l k new began₁ e;
      class = by_class (λ d. (plain t₂ base wrk₁).class d ≡ cond (before m (suc c) d) (query_step (suc p) n ((plain s base wrk).class d)) ((plain s base wrk).class d))
          (rw (before_this m c, named_here) own_class)
          (λ d q ne. rw (before_other m c d ne) (other_class d q ne ∙ u.class d q));
      mask = by_class (λ d. named (query_at t₂.queries p).classes d ≡ before m (suc c) d)
          (rw (now, before_this m c, named_here) e.own)
          (λ d q ne. rw (now, before_other m c d ne) (e.others d q ne ∙ rw settled.queries (u.mask d q)));
      began = inr (ap (λ (x : Query). x.begun) now);
      sums = by_class (λ d. get_or t₂.sums d 0 ≡ get_or s.sums d 0 + cond (before m (suc c) d) 1 0)
          (let z : get_or t.sums c 0 ≡ get_or s.sums c 0 + 0 = u.sums c l ∙ rw (not_yet m c) in
          let o : get_or t₁.sums c 0 ≡ get_or t.sums c 0 = ap (λ (r : List ℕ). get_or r c 0) settled.sums in
          rw (before_this m c, named_here) (omega (arith, sum-own)))
          (λ d q ne. rw (before_other m c d ne) (sum-others d q ne ∙ ap (λ (r : List ℕ). get_or r d 0) settled.sums ∙ u.sums d q));
      counts = (
        e.counts.0 ∙ settled.counts.0 ∙ u.counts.0,
        e.counts.1 ∙ settled.counts.1 ∙ u.counts.1,
        e.counts.2 ∙ settled.counts.2 ∙ u.counts.2,
      );
      kept = e.kept ∙ settled.kept ∙ u.kept;
    }

-- THE START: the count of queries begun is one more, and the place at index p is free
pub upto_none : (s : Store) (base wrk : List ℕ) (m p n : ℕ) → Laid s → (query_at s.queries p).classes ≡ 0 → Upto s s base wrk wrk m p n 0
upto_none s base wrk m p n h z = record {
  laid = h;
  class = λ d l. rw (none_before d);
  mask = λ d l. rw (none_before d, z) (none_named d);
  began = inl z;
  sums = λ d l. rw (none_before d) (omega arith);
  counts = (refl, refl, refl);
  kept = refl;
}
  where
    none_before : (d : ℕ) → before m 0 d ≡ false
    none_before d = rw (le-ltb d 0 (omega arith))

-- THE END: after all classes it is the plain call, on the site x before the count was raised
module _ (x : State) (y : State) (w : Shaped x.site) (m p : ℕ) (r : RightCells x) (r' : RightCells y) (q : SoundState x)
    (s : Store) (raised : (s.begun ≡ x.site.begun + 1) × (s.confirmations ≡ x.site.confirmations) × (s.commits ≡ x.site.commits) × (s.kept ≡ x.site.kept) × (s.sums ≡ x.site.sums))
    (same_Class : (d : ℕ) → d < 16 → (plain s x.committed x.working).class d ≡ (plain_of x).class d)
    (place : S.free_place (plain_of x) ≡ suc p) (accepted : S.refusal (plain_of x) (S.query m) ≡ 0)
    (slots8 : (length y.site.slots ≡ 128) × (length y.site.queries ≡ 8)) (cells : y.committed ≡ x.committed)
    (u : Upto s y.site x.committed x.working y.working m p x.site.confirmations 16) where
  taken : S.accepts (plain_of x) (S.query m) ≡ true
  taken = rw accepted

  outcome : S.call (plain_of x) (S.query m) ≡ record { site = S.begins (plain_of x) m; answer = begun (S.free_place (plain_of x)) }
  unfolding S.call S.act
  outcome = rw taken

  all_before : (d : ℕ) → d < 16 → before m 16 d ≡ named m d
  all_before d l = rw (lt-ltb d 16 l)

  same : Same (plain_of y) (S.begins (plain_of x) m)
  same = record {
    class = λ d l. rw cells (u.class d l ∙ rw (all_before d l, same_Class d l) (step d));
    confirmations = counted.0;
    commits = counted.1;
    queries = counted.2;
    kept = λ n r. kept_same n;
  }
    where
      step : (d : ℕ) → cond (named m d) (query_step (suc p) x.site.confirmations ((plain_of x).class d)) ((plain_of x).class d) ≡ (S.begins (plain_of x) m).class d
      step d = unfold plain in (ap (λ (i : ℕ). cond (named m d) (query_step i x.site.confirmations ((plain_of x).class d)) ((plain_of x).class d)) (sym place))

      counted : ((plain_of y).confirmations ≡ (plain_of x).confirmations) × ((plain_of y).commits ≡ (plain_of x).commits) × ((plain_of y).queries ≡ (plain_of x).queries + 1)
      counted = unfold plain in (u.counts.0 ∙ raised.1, u.counts.1 ∙ raised.2, u.counts.2 ∙ raised.0)

      kept_same : (n : ℕ) → (plain_of y).kept n ≡ (plain_of x).kept n
      kept_same n = unfold plain in (rw (u.kept, raised.3))

  sound_x : SoundSite (plain_of x)
  sound_x = to_plain x.site w.slots w.queries q.laid x.committed x.working q

  costs : (d : ℕ) → d < 16 → get_or y.site.sums d 0 ≡ confirmed_costs ((S.begins (plain_of x) m).class d).queue
  costs d l =
      let now : get_or y.site.sums d 0 ≡ get_or x.site.sums d 0 + cond (named m d) 1 0 =
      u.sums d l ∙ rw (raised.4, all_before d l) in
      now ∙ by_test (named m d)
      (λ t. rw t (ap (λ (n : ℕ). n + 1) (old d l) ∙ sym (query_kept (plain_of x) sound_x m d taken l)))
      (λ f. rw f (omega (arith, old d l)))
    where
      old : (d : ℕ) → d < 16 → get_or x.site.sums d 0 ≡ confirmed_costs ((plain_of x).class d).queue
      old d l = unfold plain plain_class in (q.sums_right d l)

  pub query_did : Did x (S.query m) y (begun (suc p))
  query_did = record {
    cells = r';
    sound = sound_kept x y (S.query m) w slots8.0 slots8.1 q u.laid (rw outcome same) (λ d l. rw outcome (costs d l));
    site = rw outcome same;
    answer = rw (outcome, place);
  }
