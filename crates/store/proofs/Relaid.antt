-- A step that changes the queue of one class: what is to be shown of the new site so that it is laid out, and what it then means. Assumes nothing.
use Prim.Native.Nat.{ℕ, suc, ◌+◌, ◌*◌, ◌-◌, ◌<◌, ◌≤◌}
use native.Mathlib.Omega.{arith}
use mathlib.Core.Path.{◌≡◌, refl, sym, ap, ◌∙◌, subst}
use mathlib.Core.Logic.{◌⊎◌}
use mathlib.Core.Bool.{cond}
use mathlib.Core.Option.{Option}
use mathlib.Core.List.{List, ◌++◌, map}
use lib.Dec.{eqb, ltb}
use lib.ListN.{length, drop, set, replicate}
use lib.Seq.{take_at, drop_at, drop-set-add, drop-set-lt, take-set-le, take-set-lt, get_or-set_same, get_or-set_other}
use borrow.Author.Tests.{eqb-true, eqb-false, eq-eqb, ne_eqb, ltb-true, ltb-false}
use Rattle.plain.specs.Queue.{booking, reading}
use Rattle.plain.specs.Steps as K
use Rattle.plain.specs.Site as S
use Rattle.places.specs.Moves.{part}
use Rattle.plain.proofs.Tests.{by_test}
use Rattle.slots.specs.Meaning.{entry_of, slot_free, is_used, no_slot, slot_at}
use Rattle.slots.specs.Rules.{Holds}
use Rattle.slots.specs.declared.Slot.{Slot}
use Rattle.store.proofs.Lists.{map_same}
use Rattle.store.specs.Meaning.{Same, cells_of, item_at, items, kept_at, len_of, places, plain, plain_class}
use Rattle.store.specs.Sound.{Laid, Unused, FreeZero, stands_at, times}
use Rattle.queries.specs.declared.Query.{Query}
use Rattle.store.specs.Store.{Store, query_at}
use Rattle.usedmap.specs.Flags.{used_of}

-- a slot is stored: that one, the others, and what holds of each
module _ (l : List Slot) (i : ℕ) (v : Slot) (m : i < length l) where
  pub at_stored : slot_at (set l i v) i ≡ v
  at_stored = get_or-set_same l i v no_slot m

  pub elsewhere : (j : ℕ) → (j ≡ i → ⊥) → slot_at (set l i v) j ≡ slot_at l j
  elsewhere j ne = get_or-set_other l i j v no_slot ne

  pub by_slot : (P : ℕ → Slot → Type 0) → P i v → ((j : ℕ) → (j ≡ i → ⊥) → P j (slot_at l j)) → (j : ℕ) → P j (slot_at (set l i v) j)
  by_slot P a b j =
      by_test (eqb j i)
      (λ e. rw (eqb-true j i e, at_stored) a)
      (λ n. rw (elsewhere j (eqb-false j i n)) (b j (eqb-false j i n)))

  -- a queue in which it does not stand
  pub items_kept : (qs : List Query) (ps : List ℕ) → times i ps ≡ 0 → items (set l i v) qs ps ≡ items l qs ps
  items_kept qs ps n = map_same (item_at (set l i v) qs) (item_at l qs) i ps
      (λ j ne. ap (λ (x : Slot). cond (ltb j 128) (booking (entry_of j x)) (reading (suc (j - 128)) (query_at qs (j - 128)).begun)) (elsewhere j ne)) n

-- a store at place p of class c: in its own part, and in another's
pub part_own : (q : List ℕ) (c p x : ℕ) → p < 136 → part (set q (136 * c + p) x) c ≡ set (part q c) p x
part_own q c p x l = rw (drop-set-add) (take-set-lt 136 (drop (136 * c) q) p x l)

pub part_other : (q : List ℕ) (c d p x : ℕ) → p < 136 → (d ≡ c → ⊥) → part (set q (136 * c + p) x) d ≡ part q d
part_other q c d p x l ne =
    by_test (ltb d c)
    (λ t. let lt = ltb-true d c t in
    let e : 136 * c + p ≡ 136 * d + (136 * c + p - 136 * d) = omega arith in
    rw (e, drop-set-add) (take-set-le 136 (drop (136 * d) q) (136 * c + p - 136 * d) x (omega arith)))
    (λ f. let le = ltb-false d c f in rw (drop-set-lt (136 * d) q (136 * c + p) x (omega arith)))

-- in t class c's queue is ps, and every other class's is what it is in s
pub record Queued (s t : Store) (c : ℕ) (ps : List ℕ) : Type 0 where
  pub fits : length ps ≤ 136
  pub len : len_of t c ≡ length ps
  pub own : part t.queue c ≡ ps ++ replicate (136 - length ps) 0
  pub others : (d : ℕ) → d < 16 → (d ≡ c → ⊥) → (len_of t d ≡ len_of s d) × (part t.queue d ≡ part s.queue d)

-- and its slots go with that
pub record Slotted (s t : Store) (c : ℕ) (ps : List ℕ) : Type 0 where
  pub slots : (i : ℕ) → i < 128 → (slot_at t.slots i ≡ slot_free) ⊎ Holds (slot_at t.slots i)
  pub own : (b : ℕ) → times b ps ≡ stands_at t c b
  pub others : (d b : ℕ) → d < 16 → (d ≡ c → ⊥) → stands_at t d b ≡ stands_at s d b
  pub used : used_of t.low t.high ≡ map is_used t.slots

module _ (s t : Store) (c : ℕ) (ps : List ℕ) (q : Queued s t c ps) where
  pub own_places : places t c ≡ ps
  own_places = rw (q.len, q.own) (take_at ps (replicate (136 - length ps) 0) (length ps) refl)

  pub other_places : (d : ℕ) → d < 16 → (d ≡ c → ⊥) → places t d ≡ places s d
  other_places d l ne = rw ((q.others d l ne).0, (q.others d l ne).1)

  -- by cases: the class itself, or another
  each_class : (P : ℕ → Type 0) → P c → ((d : ℕ) → d < 16 → (d ≡ c → ⊥) → P d) → (d : ℕ) → d < 16 → P d
  each_class P h g d l = by_test (eqb d c) (λ e. subst P (sym (eqb-true d c e)) h) (λ n. g d l (eqb-false d c n))

  pub relaid : Laid s → Slotted s t c ps → Unused t → FreeZero t → Laid t
  relaid h k u z = record {
    free_or_valid = k.slots;
    not_longer_than_136 = each_class (λ d. len_of t d ≤ 136) (omega (arith, q.len, q.fits)) (λ d l ne. omega (arith, (q.others d l ne).0, h.not_longer_than_136 d l));
    exactly_once = λ d i l. each_class (λ d. times i (places t d) ≡ stands_at t d i)
        (rw own_places (k.own i))
        (λ d l ne. rw (other_places d l ne) (h.exactly_once d i l ∙ sym (k.others d i l ne))) d l;
    past_the_end_zero = each_class (λ d. drop (len_of t d) (part t.queue d) ≡ replicate (136 - len_of t d) 0)
        (rw (q.len, q.own) (drop_at ps (replicate (136 - length ps) 0) (length ps) refl))
        (λ d l ne. rw ((q.others d l ne).0, (q.others d l ne).1) (h.past_the_end_zero d l));
    map_agrees = k.used;
    unused_zero = u;
    free_queries_zero = z;
  }

  -- what it means: the steps of the plain queue in class c
  pub means : (base wrk base' wrk' : List ℕ) (new : Option ℕ) (did : K.Did)
      → items t.slots t.queries ps ≡ did.class.queue → cells_of base' c ≡ did.class.committed → cells_of wrk' c ≡ did.class.working
      → ((d : ℕ) → d < 16 → (d ≡ c → ⊥) → items t.slots t.queries (places s d) ≡ items s.slots s.queries (places s d))
      → ((d : ℕ) → d < 16 → (d ≡ c → ⊥) → (cells_of base' d ≡ cells_of base d) × (cells_of wrk' d ≡ cells_of wrk d))
      → t.confirmations ≡ s.confirmations + S.given new → t.commits ≡ s.commits + S.commits_by did.answer → t.begun ≡ s.begun
      → ((n : ℕ) → S.Recent t.confirmations n → kept_at t n ≡ S.kept_with new (suc s.confirmations) (kept_at s) n)
      → Same (plain t base' wrk') (S.in_class (plain s base wrk) c new did).site
  unfolding plain plain_class
  means base wrk base' wrk' new did e f g o z m n b ids = record {
    class = each_class (λ d. plain_class t base' wrk' d ≡ (S.in_class (plain s base wrk) c new did).site.class d)
        (rw (eq-eqb c c refl, own_places) (λ i. record { queue = e i; committed = f i; working = g i }))
        (λ d l ne. rw (ne_eqb d c ne, other_places d l ne) (λ i. record { queue = o d l ne i; committed = (z d l ne).0 i; working = (z d l ne).1 i }));
    confirmations = m;
    commits = n;
    queries = b;
    kept = ids;
  }
