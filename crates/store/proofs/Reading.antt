-- An entry that is head is read and taken away: the site stays laid out, and the plain queue is the rest; the query's place is free again once no class
-- is left. And which places are open, and the lowest that is free. Assumes nothing.
use Prim.Native.Nat.{ℕ, zero, suc, ◌+◌, ◌-◌, ◌<◌, ◌≤◌}
use native.Mathlib.Omega.{arith}
use mathlib.Core.Path.{◌≡◌, refl, sym, ap, ◌∙◌}
use mathlib.Core.Logic.{◌⊎◌, inl, inr}
use mathlib.Core.Bool.{Bool, true, false, cond, not}
use mathlib.Core.List.{List, ◌∷◌}
use lib.Dec.{eqb, ltb}
use lib.ListN.{set}
use lib.Seq.{get_or-set_same, get_or-set_other}
use borrow.Author.Tests.{eqb-true, eqb-false, eq-eqb, ne_eqb, ltb-false, lt-ltb}
use Rattle.plain.specs.Queue.{Item, reading, place_is, count}
use Rattle.plain.specs.Site as S
use Rattle.plain.specs.Site.{sum, standing, named, lowest}
use Rattle.plain.proofs.Tests.{by_test, no}
use Rattle.plain.proofs.Sums.{sum_nothing, sum_term}
use Rattle.queries.specs.declared.Query.{Query}
use Rattle.queries.specs.Table.{free_query}
use Rattle.store.specs.Store.{Store, Shaped, query_at}
use Rattle.store.specs.Meaning.{item_at, items, places, queue_of, plain, plain_class}
use Rattle.store.specs.Sound.{Laid, FreeZero, stands_at, times}
use Rattle.store.proofs.Masks.{none_named, some_named}
use Rattle.store.proofs.Canonical.{query_stands}
use Rattle.store.proofs.Meant.{place_times}
use Rattle.store.proofs.Relaid.{Queued, own_places, other_places, relaid}
use Rattle.store.proofs.Entering.{map_agree}

-- what the step leaves: class c's queue is ps, without the query at index p that was its head, and the query has class c no more to read; where none is
-- left its place is all zero
pub record Leaves (s t : Store) (c p mask : ℕ) (ps : List ℕ) : Type 0 where
  pub head : places s c ≡ (128 + p) ∷ ps
  pub queued : Queued s t c ps
  pub slots : t.slots ≡ s.slots
  pub map_same : (t.low ≡ s.low) × (t.high ≡ s.high)
  pub counts : (t.confirmations ≡ s.confirmations) × (t.commits ≡ s.commits) × (t.begun ≡ s.begun)
  pub kept : t.kept ≡ s.kept
  pub queries : t.queries ≡ set s.queries p (record { classes = mask; begun = cond (eqb mask 0) 0 (query_at s.queries p).begun })
  pub own : named mask c ≡ false
  pub others : (d : ℕ) → d < 16 → (d ≡ c → ⊥) → named mask d ≡ named (query_at s.queries p).classes d

module _ (s t : Store) (w : Shaped s) (h : Laid s) (c p mask : ℕ) (ps : List ℕ) (l : c < 16) (m : p < 8) (e : Leaves s t c p mask ps) where
  abbrev b : ℕ
  b = 128 + p

  abbrev left : Query
  left = record { classes = mask; begun = cond (eqb mask 0) 0 (query_at s.queries p).begun }

  this_query : query_at t.queries p ≡ left
  this_query = rw e.queries (get_or-set_same s.queries p left free_query (omega (arith, w.queries)))

  that_query : (j : ℕ) → (j ≡ p → ⊥) → query_at t.queries j ≡ query_at s.queries j
  that_query j ne = rw e.queries (get_or-set_other s.queries p j left free_query ne)

  -- it stood there once
  here : suc (times b ps) ≡ stands_at s c b
  here = rw (eq-eqb b b refl) at (sym (ap (times b) e.head) ∙ h.exactly_once c b l)

  gone : times b ps ≡ 0
  gone = omega (arith, here, query_stands s c p, small (named (query_at s.queries p).classes c))
    where
      small : (a : Bool) → cond a 1 0 ≤ 1
      small true = omega arith
      small false = omega arith

  stands_after : (d x : ℕ) → d < 16 → (d ≡ c → ⊥) ⊎ (x ≡ b → ⊥) → stands_at t d x ≡ stands_at s d x
  stands_after d x k ne =
      by_test (ltb x 128)
      (λ y. rw (y, e.slots))
      (λ f. rw f (by_test (eqb (x - 128) p)
      (λ y. let q : x - 128 ≡ p = eqb-true (x - 128) p y in
      rw (q, this_query) (ap (λ (a : Bool). cond a 1 0) (e.others d k (apart q (ltb-false x 128 f) ne))))
      (λ g. rw (that_query (x - 128) (eqb-false (x - 128) p g)))))
    where
      apart : x - 128 ≡ p → 128 ≤ x → (d ≡ c → ⊥) ⊎ (x ≡ b → ⊥) → d ≡ c → ⊥
      apart q g (inl ne) = ne
      apart q g (inr ne) = absurd (ne (omega arith))

  pub leave_laid : Laid t
  leave_laid = relaid s t c ps e.queued h
      (record {
        slots = rw e.slots h.free_or_valid;
        own = own_place;
        others = λ d x k ne. stands_after d x k (inl ne);
        used = rw (e.slots, e.map_same.0, e.map_same.1) h.map_agrees;
      })
      (λ n k m. rw e.kept (h.unused_zero n (omega (arith, e.counts.0)) m))
      free_zero
    where
      own_place : (x : ℕ) → times x ps ≡ stands_at t c x
      own_place x =
          by_test (eqb b x)
          (λ y. let q : b ≡ x = eqb-true b x y in
          let z : stands_at t c b ≡ 0 = query_stands t c p ∙ rw (this_query, e.own) in rw (← q) (omega (arith, gone)))
          (λ f. let u : times x (b ∷ ps) ≡ times x ps = rw f in
          omega (arith, sym u ∙ sym (ap (times x) e.head), h.exactly_once c x l, stands_after c x l (inr (λ q. eqb-false b x f (sym q)))))

      free_zero : FreeZero t
      free_zero j z =
          by_test (eqb j p)
          (λ y. let q : j ≡ p = eqb-true j p y in
          let z' : mask ≡ 0 = sym (ap (λ (x : Query). x.classes) this_query) ∙ (rw q at z) in
          rw (q, this_query, eq-eqb mask 0 z'))
          (λ f. let o = that_query j (eqb-false j p f) in
          rw o (h.free_queries_zero j (sym (ap (λ (x : Query). x.classes) o) ∙ z)))

  -- where it still stands it has its beginning
  item_same : (d : ℕ) → d < 16 → (x : ℕ) → (x ≡ b → (d ≡ c → ⊥) × (0 < times b (places s d))) → item_at t.slots t.queries x ≡ item_at s.slots s.queries x
  item_same d k x u =
      by_test (ltb x 128)
      (λ y. rw (y, e.slots))
      (λ f. rw f (by_test (eqb (x - 128) p)
      (λ y. let q : x - 128 ≡ p = eqb-true (x - 128) p y in
      let v = u (omega (arith, ltb-false x 128 f)) in
      rw (q, this_query) (ap (reading (suc p)) (still v.0 v.1)))
      (λ g. rw (that_query (x - 128) (eqb-false (x - 128) p g)))))
    where
      still : (d ≡ c → ⊥) → 0 < times b (places s d) → cond (eqb mask 0) 0 (query_at s.queries p).begun ≡ (query_at s.queries p).begun
      still ne v =
          by_test (eqb mask 0)
          (λ y. let z : mask ≡ 0 = eqb-true mask 0 y in
          let n : named (query_at s.queries p).classes d ≡ false = sym (e.others d k ne) ∙ rw z (none_named d) in
          let o : stands_at s d b ≡ 0 = query_stands s d p ∙ rw n in
          absurd (omega (arith, h.exactly_once d b k)))
          (λ f. rw f)

  pub leave_queue : queue_of s c ≡ item_at s.slots s.queries b ∷ queue_of t c
  leave_queue =
      ap (items s.slots s.queries) e.head
      ∙ ap (λ (q : List Item). item_at s.slots s.queries b ∷ q)
      (sym (ap (items t.slots t.queries) (own_places s t c ps e.queued)
      ∙ map_agree (item_at t.slots t.queries) (item_at s.slots s.queries) ps (λ x u. item_same c l x (λ q. absurd (none_left x q u)))))
    where
      none_left : (x : ℕ) → x ≡ b → 0 < times x ps → ⊥
      none_left x q u = let u' : 0 < times b ps = rw q at u in omega (arith, gone)

  pub leave_others : (d : ℕ) → d < 16 → (d ≡ c → ⊥) → queue_of t d ≡ queue_of s d
  leave_others d k ne =
      ap (items t.slots t.queries) (other_places s t c ps e.queued d k ne)
      ∙ map_agree (item_at t.slots t.queries) (item_at s.slots s.queries) (places s d) (λ x u. item_same d k x (λ q. (ne, (rw q at u))))

-- WHICH PLACES ARE OPEN: those with a class still to read
module _ (s : Store) (w : Shaped s) (h : Laid s) (base wrk : List ℕ) where
  pub open_is : (p : ℕ) → S.is_open (plain s base wrk) (suc p) ≡ not (eqb (query_at s.queries p).classes 0)
  unfolding S.is_open standing plain plain_class
  open_is p = go (some_named (query_at s.queries p).classes (w.masks p))
    where
      stood : (c : ℕ) → c < 16 → count (place_is (suc p)) (queue_of s c) ≡ stands_at s c (128 + p)
      stood c l = place_times s p (places s c) ∙ h.exactly_once c (128 + p) l

      all : ℕ
      all = sum (λ c. count (place_is (suc p)) (queue_of s c)) 16

      go : ((query_at s.queries p).classes ≡ 0) ⊎ ((c : ℕ) × (c < 16) × (named (query_at s.queries p).classes c ≡ true))
          → ltb 0 all ≡ not (eqb (query_at s.queries p).classes 0)
      go (inl z) =
          let n : all ≡ 0 = sum_nothing (λ c. count (place_is (suc p)) (queue_of s c)) 16 (λ c l. stood c l ∙ query_stands s c p ∙ rw (z, none_named c)) in
          rw (n, eq-eqb (query_at s.queries p).classes 0 z)
      go (inr y) =
          let one : stands_at s y.0 (128 + p) ≡ 1 = query_stands s y.0 p ∙ rw y.2 in
          let n : 0 < all = omega (arith, sum_term (λ c. count (place_is (suc p)) (queue_of s c)) 16 y.0 y.1, stood y.0 y.1) in
          rw (lt-ltb 0 all n, ne_eqb (query_at s.queries p).classes 0 (λ z. no _ y.2 (rw z (none_named y.0))))

  -- the lowest place that is free, as a walk over the table from index 0 finds it
  pub free_place_is : S.free_place (plain s base wrk) ≡ suc (lowest (λ p. eqb (query_at s.queries p).classes 0) 0 8)
  unfolding S.free_place
  free_place_is = shifted 0 8
    where
      not_not : (a : Bool) → not (not a) ≡ a
      not_not true = refl
      not_not false = refl

      shifted : (from n : ℕ) → lowest (λ p. not (S.is_open (plain s base wrk) p)) (suc from) n ≡ suc (lowest (λ p. eqb (query_at s.queries p).classes 0) from n)
      shifted from zero = refl
      shifted from (suc n) =
          let e : not (S.is_open (plain s base wrk) (suc from)) ≡ eqb (query_at s.queries from).classes 0 = ap not (open_is from) ∙ not_not _ in
          by_test (eqb (query_at s.queries from).classes 0)
          (λ t. rw (e, t))
          (λ f. rw (e, f) (shifted (suc from) n))
