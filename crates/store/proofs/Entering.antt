-- A query's entry enters the queue of one class: the site stays laid out, and the plain queue has the entry before its waiting requests. A query enters
-- so class by class, and after each class its mask has one class more; only the count of queries begun is not this step's. Assumes nothing.
use Prim.Native.Nat.{ℕ, zero, suc, ◌+◌, ◌-◌, ◌<◌, ◌≤◌}
use native.Mathlib.Omega.{arith}
use mathlib.Core.Path.{◌≡◌, refl, sym, ap, ◌∙◌}
use mathlib.Core.Logic.{◌⊎◌, inl, inr}
use mathlib.Core.Bool.{Bool, true, false, cond}
use mathlib.Core.List.{List, [], ◌∷◌, ◌++◌, map}
use lib.Dec.{eqb, ltb}
use lib.ListN.{length, take, drop, set, take-append-drop}
use lib.Seq.{get_or-set_same, get_or-set_other}
use borrow.Author.Tests.{eqb-true, eqb-false, eq-eqb, ltb-false}
use Rattle.plain.specs.Queue.{Item, reading, is_confirmed, before_waiting}
use Rattle.plain.specs.Site.{named}
use Rattle.plain.specs.Sound.{All, Waiting}
use Rattle.plain.proofs.Tests.{by_test, no}
use Rattle.plain.proofs.Items.{waiting_unconfirmed}
use Rattle.queries.specs.declared.Query.{Query}
use Rattle.queries.specs.Table.{free_query}
use Rattle.store.specs.Store.{Store, Shaped, query_at}
use Rattle.store.specs.Meaning.{item_at, items, places, queue_of}
use Rattle.store.specs.Sound.{Laid, FreeZero, stands_at, times}
use Rattle.store.proofs.Lists.{times_append, map_append, map_take, map_drop}
use Rattle.store.proofs.Masks.{none_named}
use Rattle.store.proofs.Canonical.{query_item, query_stands}
use Rattle.store.proofs.Relaid.{Queued, own_places, other_places, relaid}

-- two maps that agree at what stands in a list
pub map_agree : {B : Type 0} (f g : ℕ → B) (ps : List ℕ) → ((b : ℕ) → 0 < times b ps → f b ≡ g b) → map f ps ≡ map g ps
map_agree f g [] h = refl
map_agree f g (x ∷ ps) h = rw (h x (rw (eq-eqb x x refl) (omega arith)), map_agree f g ps (λ b l. h b (more b l)))
  where
    more : (b : ℕ) → 0 < times b ps → 0 < times b (x ∷ ps)
    more b l = by_test (eqb x b) (λ t. rw t (omega arith)) (λ f. rw f l)

-- before the first waiting one, by its place
pub before_at : (x : Item) (q : List Item) (to : ℕ) → to ≤ length q → All (λ y. is_confirmed y ≡ true) (take to q) → All Waiting (drop to q)
    → before_waiting x q ≡ take to q ++ x ∷ drop to q
before_at x [] zero l a b = refl
before_at x [] (suc to) l a b = absurd (omega arith)
before_at x (e ∷ q) zero l a b = rw (waiting_unconfirmed e b.0)
before_at x (e ∷ q) (suc to) l a b = rw (a.0, before_at x q to (omega arith) a.1 b)

-- what the step leaves: place `to` of class c's queue is the query at index p, which has class c still to read now, and began at n; all else stays
pub record Enters (s t : Store) (c p to n mask : ℕ) : Type 0 where
  pub queued : Queued s t c (take to (places s c) ++ (128 + p) ∷ drop to (places s c))
  pub slots : t.slots ≡ s.slots
  pub map_same : (t.low ≡ s.low) × (t.high ≡ s.high)
  pub counts : (t.confirmations ≡ s.confirmations) × (t.commits ≡ s.commits) × (t.begun ≡ s.begun)
  pub kept : t.kept ≡ s.kept
  pub queries : t.queries ≡ set s.queries p (record { classes = mask; begun = n })
  -- the mask has class c more
  pub own : named mask c ≡ true
  pub others : (d : ℕ) → d < 16 → (d ≡ c → ⊥) → named mask d ≡ named (query_at s.queries p).classes d

module _ (s t : Store) (w : Shaped s) (h : Laid s) (c p to n mask : ℕ) (l : c < 16) (m : p < 8)
    (new : named (query_at s.queries p).classes c ≡ false)
    (began : ((query_at s.queries p).classes ≡ 0) ⊎ ((query_at s.queries p).begun ≡ n)) (e : Enters s t c p to n mask) where
  abbrev ps : List ℕ
  ps = places s c

  abbrev b : ℕ
  b = 128 + p

  inside : p < length s.queries
  inside = omega (arith, w.queries)

  -- the table after it
  pub this_query : query_at t.queries p ≡ record { classes = mask; begun = n }
  this_query = rw e.queries (get_or-set_same s.queries p (record { classes = mask; begun = n }) free_query inside)

  that_query : (j : ℕ) → (j ≡ p → ⊥) → query_at t.queries j ≡ query_at s.queries j
  that_query j ne = rw e.queries (get_or-set_other s.queries p j (record { classes = mask; begun = n }) free_query ne)

  -- it did not stand in this queue, and where it stands it began at n
  not_here : times b ps ≡ 0
  not_here = h.exactly_once c b l ∙ query_stands s c p ∙ rw new

  same_begun : (d : ℕ) → d < 16 → 0 < times b (places s d) → (query_at s.queries p).begun ≡ n
  same_begun d k u = go began
    where
      go : ((query_at s.queries p).classes ≡ 0) ⊎ ((query_at s.queries p).begun ≡ n) → (query_at s.queries p).begun ≡ n
      go (inr y) = y
      go (inl z) =
          let f : named (query_at s.queries p).classes d ≡ false = rw z (none_named d) in
          let g : stands_at s d b ≡ 0 = query_stands s d p ∙ rw f in
          absurd (omega (arith, h.exactly_once d b k))

  -- each place may stand where it did, and this one in class c too
  stands_after : (d x : ℕ) → d < 16 → (d ≡ c → ⊥) ⊎ (x ≡ b → ⊥) → stands_at t d x ≡ stands_at s d x
  stands_after d x k ne =
      by_test (ltb x 128)
      (λ y. rw (y, e.slots))
      (λ f. rw f (by_test (eqb (x - 128) p)
      (λ y. let q : x - 128 ≡ p = eqb-true (x - 128) p y in
      rw (q, this_query) (ap (λ (a : Bool). cond a 1 0) (e.others d k (apart q (ltb-false x 128 f) ne))))
      (λ g. rw (that_query (x - 128) (eqb-false (x - 128) p g)))))
    where
      apart : x - 128 ≡ p → 128 ≤ x → (d ≡ c → ⊥) ⊎ (x ≡ b → ⊥) → d ≡ c → ⊥
      apart q g (inl ne) = ne
      apart q g (inr ne) = absurd (ne (omega arith))

  stands_here : stands_at t c b ≡ 1
  stands_here = query_stands t c p ∙ rw (this_query, e.own)

  times_after : (x : ℕ) → times x (take to ps ++ b ∷ drop to ps) ≡ cond (eqb b x) 1 0 + times x ps
  times_after x =
      let a = times_append x (take to ps) (b ∷ drop to ps) in
      let o = times_append x (take to ps) (drop to ps) in
      let s : times x (take to ps ++ drop to ps) ≡ times x ps = ap (times x) (take-append-drop to ps) in
      by_test (eqb b x)
      (λ y. let z : times x (b ∷ drop to ps) ≡ suc (times x (drop to ps)) = rw y in rw y (omega arith))
      (λ f. let z : times x (b ∷ drop to ps) ≡ times x (drop to ps) = rw f in rw f (omega arith))

  -- THE SITE STAYS LAID OUT
  pub enter_laid : Laid t
  enter_laid = relaid s t c (take to ps ++ b ∷ drop to ps) e.queued h
      (record {
        slots = rw e.slots h.free_or_valid;
        own = λ x. times_after x ∙ own_place x;
        others = λ d x k ne. stands_after d x k (inl ne);
        used = rw (e.slots, e.map_same.0, e.map_same.1) h.map_agrees;
      })
      (λ n k m. rw e.kept (h.unused_zero n (omega (arith, e.counts.0)) m))
      free_zero
    where
      own_place : (x : ℕ) → cond (eqb b x) 1 0 + times x ps ≡ stands_at t c x
      own_place x =
          by_test (eqb b x)
          (λ y. let q : b ≡ x = eqb-true b x y in rw (y, ← q) (omega (arith, not_here, stands_here)))
          (λ f. rw f (omega (arith, h.exactly_once c x l, stands_after c x l (inr (λ q. eqb-false b x f (sym q))))))

      free_zero : FreeZero t
      free_zero j z =
          by_test (eqb j p)
          (λ y. let q : j ≡ p = eqb-true j p y in
          let z' : mask ≡ 0 = sym (ap (λ (x : Query). x.classes) this_query) ∙ (rw q at z) in
          no _ e.own (rw z' (none_named c)))
          (λ f. let o = that_query j (eqb-false j p f) in
          rw o (h.free_queries_zero j (sym (ap (λ (x : Query). x.classes) o) ∙ z)))

  -- WHAT IT MEANS
  item_same : (d : ℕ) → d < 16 → (x : ℕ) → 0 < times x (places s d) → item_at t.slots t.queries x ≡ item_at s.slots s.queries x
  item_same d k x u =
      by_test (ltb x 128)
      (λ y. rw (y, e.slots))
      (λ f. rw f (by_test (eqb (x - 128) p)
      (λ y. let q : x - 128 ≡ p = eqb-true (x - 128) p y in
      let r : x ≡ b = omega (arith, ltb-false x 128 f) in
      let u' : 0 < times b (places s d) = rw r at u in
      rw (q, this_query) (ap (reading (suc p)) (sym (same_begun d k u'))))
      (λ g. rw (that_query (x - 128) (eqb-false (x - 128) p g)))))

  items_same : (d : ℕ) → d < 16 → items t.slots t.queries (places s d) ≡ items s.slots s.queries (places s d)
  items_same d k = map_agree (item_at t.slots t.queries) (item_at s.slots s.queries) (places s d) (item_same d k)

  entry_is : item_at t.slots t.queries b ≡ reading (suc p) n
  entry_is = query_item t.slots t.queries p ∙ ap (λ (x : Query). reading (suc p) x.begun) this_query

  pub enter_queue : to ≤ length (queue_of s c) → All (λ y. is_confirmed y ≡ true) (take to (queue_of s c)) → All Waiting (drop to (queue_of s c))
      → queue_of t c ≡ before_waiting (reading (suc p) n) (queue_of s c)
  enter_queue fits a z =
      ap (items t.slots t.queries) (own_places s t c (take to ps ++ b ∷ drop to ps) e.queued)
      ∙ map_append f (take to ps) (b ∷ drop to ps)
      ∙ rw (map_take f to ps, map_drop f to ps, items_same c l, entry_is)
      (sym (before_at (reading (suc p) n) (queue_of s c) to fits a z))
    where
      f : ℕ → Item
      f = item_at t.slots t.queries

  pub enter_others : (d : ℕ) → d < 16 → (d ≡ c → ⊥) → queue_of t d ≡ queue_of s d
  enter_others d k ne = ap (items t.slots t.queries) (other_places s t c (take to ps ++ b ∷ drop to ps) e.queued d k ne) ∙ items_same d k
