-- A class depends on itself: work and read on nothing else, offer and confirm on five things more, query on three; and a call leaves the other classes. Assumes nothing.
use Prim.Native.Nat.{ℕ, zero, suc, ◌+◌, ◌<◌, ◌≤◌}
use native.Mathlib.Omega.{arith}
use mathlib.Core.Path.{◌≡◌, refl, sym, ap, ◌∙◌}
use mathlib.Core.Bool.{Bool, true, false, cond, not}
use mathlib.Core.List.{List}
use lib.Dec.{eqb}
use borrow.Author.Tests.{eqb-true, eqb-false, eq-eqb, ne_eqb, lt-ltb}
use Rattle.plain.specs.Record.{request_in}
use Rattle.plain.specs.Queue.{slot_is, has}
use Rattle.plain.specs.Site.{Site, Call, offer, work, confirm, read, look, query, call, act, accepts, refusal}
use Rattle.plain.specs.Site.{lowest, standing, class_of, is_queued, is_free, slot_free, number_queued, is_open, free_place, named}
use Rattle.plain.specs.Sound.{SoundSite}
use Rattle.plain.specs.Demands.{Shares, SharesQueries, ActAlike, For}
use Rattle.plain.proofs.Tests.{by_test}
use Rattle.plain.proofs.Sums.{sum_same}
use Rattle.plain.proofs.Sites.{class_is, slots_queued, confirm_accepted}

-- WORK AND READ look at their class alone
work_refusal : (s t : Site) (c : ℕ) → s.class c ≡ t.class c → refusal s (work c) ≡ refusal t (work c)
unfolding refusal
work_refusal s t c e = rw e

pub work_local : (s t : Site) (c : ℕ) → s.class c ≡ t.class c → ActAlike s t c (work c)
unfolding call act
work_local s t c e =
    by_test (accepts t (work c))
    (λ y. record { answer = rw (work_refusal s t c e, y, e); class = rw (work_refusal s t c e, y, e, eq-eqb c c refl) })
    (λ f. record { answer = rw (work_refusal s t c e, f); class = rw (work_refusal s t c e, f) e })

read_refusal : (s t : Site) (c k : ℕ) → refusal s (read c k) ≡ refusal t (read c k)
unfolding refusal
read_refusal s t c k = refl

pub read_local : (s t : Site) (c k : ℕ) → s.class c ≡ t.class c → ActAlike s t c (read c k)
unfolding call act
read_local s t c k e =
    by_test (accepts t (read c k))
    (λ y. record { answer = rw (read_refusal s t c k, y, e); class = rw (read_refusal s t c k, y, e) })
    (λ f. record { answer = rw (read_refusal s t c k, f); class = rw (read_refusal s t c k, f, e) })

-- OFFER. The lowest free slot, and how many are used
pub lowest_same : (p q : ℕ → Bool) (from n : ℕ) → ((i : ℕ) → from ≤ i → i < from + n → p i ≡ q i) → lowest p from n ≡ lowest q from n
lowest_same p q from zero h = refl
lowest_same p q from (suc n) h =
    rw (h from (omega arith) (omega arith), lowest_same p q (suc from) n (λ i l m. h i (omega arith) (omega arith)))

used : (s : Site) → SoundSite s → (i : ℕ) → standing (slot_is i) s ≡ cond (is_free s i) 0 1
unfolding is_free
used s w i =
    by_test (eqb (standing (slot_is i) s) 0)
    (λ t. rw t (eqb-true _ 0 t))
    (λ f. let ne : standing (slot_is i) s ≡ 0 → ⊥ = eqb-false _ 0 f in rw f (omega (arith, w.slots i)))

module _ (s t : Site) (c : ℕ) (h : Shares s t c) where
  same_slot : slot_free s ≡ slot_free t
  unfolding slot_free
  same_slot = lowest_same (is_free s) (is_free t) 0 128 (λ i l m. h.free i m)

  same_queued : number_queued s ≡ number_queued t
  same_queued =
      sym (slots_queued s h.sound.0)
      ∙ sum_same (λ i. standing (slot_is i) s) (λ i. standing (slot_is i) t) 128
      (λ i l. used s h.sound.0 i ∙ rw (h.free i l) (sym (used t h.sound.1 i)))
      ∙ slots_queued t h.sound.1

  offer_refusal : (b : List ℕ) → refusal s (offer b) ≡ refusal t (offer b)
  unfolding refusal
  offer_refusal b = rw (h.ids (request_in b).id, h.kept (request_in b).id, same_queued)

  pub offer_local : (b : List ℕ) → (request_in b).class ≡ c → ActAlike s t c (offer b)
  unfolding call act
  offer_local b e =
      by_test (accepts t (offer b))
      (λ y. record {
        answer = rw (offer_refusal b, y, same_slot, e, h.class);
        class = rw (offer_refusal b, y, same_slot, e, h.class, eq-eqb c c refl);
      })
      (λ f. record { answer = rw (offer_refusal b, f); class = rw (offer_refusal b, f) h.class })

  -- CONFIRM of an id that is queued in class c, or not at all
  module _ (i n : ℕ) (here : is_queued s i ≡ true → has i (s.class c).queue ≡ true) (l : c < 16) where
    found_here : is_queued s i ≡ true → (class_of s i ≡ c) × (class_of t i ≡ c)
    found_here q = (
      class_is s i c h.sound.0 l (here q),
      class_is t i c h.sound.1 l (rw h.class at (here q)),
    )

    confirm_refusal : refusal s (confirm i n) ≡ refusal t (confirm i n)
    unfolding refusal class_of
    confirm_refusal =
        by_test (is_queued s i)
        (λ q. let f = found_here q in rw (h.next, f.0, f.1, h.class))
        (λ g. let g' : is_queued t i ≡ false = sym (h.ids i) ∙ g in rw (h.next, g, g'))

    pub confirm_local : ActAlike s t c (confirm i n)
    unfolding call act
    confirm_local =
        by_test (accepts t (confirm i n))
        (λ y. record { answer = rw (confirm_refusal, y) (same (queued y)).0; class = rw (confirm_refusal, y) (same (queued y)).1 })
        (λ f. record { answer = rw (confirm_refusal, f); class = rw (confirm_refusal, f) h.class })
      where
        queued : accepts t (confirm i n) ≡ true → is_queued s i ≡ true
        queued y = h.ids i ∙ lt-ltb (class_of t i) 16 (confirm_accepted t i n y).known

        same : is_queued s i ≡ true → ((act s (confirm i n)).answer ≡ (act t (confirm i n)).answer) × ((act s (confirm i n)).site.class c ≡ (act t (confirm i n)).site.class c)
        same q = let f = found_here q in (rw (f.0, f.1, h.class), rw (f.0, f.1, h.class, eq-eqb c c refl))

-- QUERY. The lowest free place
module _ (s t : Site) (c : ℕ) (h : SharesQueries s t c) where
  same_place : free_place s ≡ free_place t
  unfolding free_place
  same_place = lowest_same (λ p. not (is_open s p)) (λ p. not (is_open t p)) 1 8 (λ p l m. ap not (h.places p l (omega arith)))

  query_refusal : (m : ℕ) → refusal s (query m) ≡ refusal t (query m)
  unfolding refusal
  query_refusal m = rw (same_place, h.queries)

  pub query_local : (m : ℕ) → ActAlike s t c (query m)
  unfolding call act
  query_local m =
      by_test (accepts t (query m))
      (λ y. record { answer = rw (query_refusal m, y, same_place); class = rw (query_refusal m, y, same_place, h.next, h.class) })
      (λ f. record { answer = rw (query_refusal m, f); class = rw (query_refusal m, f) h.class })

-- THE OTHER CLASSES are left as they are
pub others_left : (s : Site) (k : Call) (d : ℕ) → (For s k d → ⊥) → (call s k).site.class d ≡ s.class d
unfolding call act
others_left s k d n = by_test (accepts s k) (λ t. rw t (go k n)) (λ f. rw f)
  where
    go : (k : Call) → (For s k d → ⊥) → (act s k).site.class d ≡ s.class d
    go (offer b) n = rw (ne_eqb d (request_in b).class n)
    go (work c) n = rw (ne_eqb d c n)
    go (confirm i m) n = rw (ne_eqb d (class_of s i) n)
    go (read c k) n = refl
    go (look i) n = refl
    go (query m) n = by_test (named m d) (λ t. absurd (n t)) (λ f. rw f)
