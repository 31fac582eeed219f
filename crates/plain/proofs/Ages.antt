-- Behind a waiting request stand only requests offered after it, after any history from fresh: a new one enters at the end, and what moves forward is
-- confirmed. Assumes nothing.
use Prim.Native.Nat.{ℕ, ◌<◌}
use native.Mathlib.Omega.{arith}
use mathlib.Core.Path.{◌≡◌, refl, sym, ap, subst}
use mathlib.Core.Bool.{Bool, true, false, cond}
use mathlib.Core.Option.{Option, none, some}
use mathlib.Core.List.{List, [], ◌∷◌, ◌++◌}
use lib.Dec.{eqb}
use borrow.Author.Tests.{eqb-true, eq-eqb}
use Rattle.plain.specs.Ops.{Request}
use Rattle.plain.specs.Record.{request_in}
use Rattle.plain.specs.Queue.{Entry, Item, booking, reading, id_of, is_executed, id_is, is_confirmed, drop_of, entry_of, without, before_waiting}
use Rattle.plain.specs.Steps.{Class, Did, new_entry, tried, advanced, work_on, work_step, offer_step}
use Rattle.plain.specs.Steps.{numbered, put_back, backed, moved, confirm_on, confirm_step, query_on, query_step}
use Rattle.plain.specs.Site.{Site, Call, offer, work, confirm, read, look, query, fresh, call, act, accepts, class_of, slot_free, free_place, named}
use Rattle.plain.specs.Site.{in_class, look_answer, confirmed_at}
use Rattle.plain.specs.Sound.{All, OfRequest}
use Rattle.plain.specs.History.{after, mask_of}
use Rattle.plain.specs.Told.{News, came, confirmed, began, other, news_of, news, came_after}
use Rattle.plain.proofs.Tests.{by_test, no}
use Rattle.plain.proofs.Items.{follows_confirmed, is_numbered}
use Rattle.plain.proofs.Queues.{all_append, all_drop, each_request, first_passes}
use Rattle.plain.proofs.Confirming.{moved_is}
use Rattle.plain.proofs.Sites.{confirm_accepted, offer_accepted, work_accepted}
use Rattle.plain.proofs.PutBacks.{new_id}

-- BEHIND A WAITING REQUEST stand only requests that are younger, by a relation of ids
module _ (young : ℕ → ℕ → Bool) where
  abbrev Younger : Entry → List Item → Type 0
  Younger e q = All (OfRequest (λ z. young (id_of e) (id_of z) ≡ true)) q

  abbrev pub AgedAt : Item → List Item → Type 0
  AgedAt (booking e) q = is_confirmed (booking e) ≡ false → Younger e q
  AgedAt (reading p b) q = Unit

  abbrev pub Aged : List Item → Type 0
  Aged [] = Unit
  Aged (x ∷ q) = AgedAt x q × Aged q

  confirmed_aged : (x : Item) (q : List Item) → is_confirmed x ≡ true → AgedAt x q
  confirmed_aged (booking e) q t = λ f. no _ t f
  confirmed_aged (reading p b) q t = tt

  aged_drop : (f : Item → Bool) (q : List Item) → Aged q → Aged (drop_of f q)
  aged_drop f [] h = tt
  aged_drop f (x ∷ q) h = by_test (f x) (λ t. rw t h.1) (λ g. rw g (at x h.0, aged_drop f q h.1))
    where
      at : (x : Item) → AgedAt x q → AgedAt x (drop_of f q)
      at (booking e) h = λ w. all_drop (OfRequest (λ z. young (id_of e) (id_of z) ≡ true)) f q (h w)
      at (reading p b) h = tt

  aged_before : (y : Item) (q : List Item) → is_confirmed y ≡ true → Aged q → Aged (before_waiting y q)
  aged_before y [] t h = (confirmed_aged y [] t, tt)
  aged_before y (x ∷ q) t h =
      by_test (is_confirmed x)
      (λ u. rw u (confirmed_aged x (before_waiting y q) u, aged_before y q t h.1))
      (λ u. rw u (confirmed_aged y (x ∷ q) t, h))

  aged_backed : (x : Item) (q : List Item) → Aged (x ∷ q) → Aged (backed x ∷ q)
  aged_backed x q h = by_test (is_confirmed x) (λ t. rw t h) (λ f. rw f (put x h.0, h.1))
    where
      put : (x : Item) → AgedAt x q → AgedAt (put_back x) q
      put (booking e) h = h
      put (reading p b) h = h

  -- each step but an offer
  work_aged : (k : Class) → Aged k.queue → Aged (work_step k).class.queue
  unfolding work_step
  work_aged k h = go k.queue h
    where
      go : (q : List Item) → Aged q → Aged (work_on q k.committed k.working).class.queue
      go [] h = tt
      go (reading p b ∷ rest) h = h.1
      go (booking e ∷ rest) h =
          by_test (is_executed (booking (advanced e (tried e k.working))))
          (λ x. by_test (is_confirmed (booking e)) (λ t. rw (x, t) h.1) (λ g. rw (x, g) h))
          (λ x. rw x h)

  moved_aged : (i n : ℕ) (q : List Item) → 0 < n → Aged q → Aged (moved i n q)
  moved_aged i n q l h = go (entry_of i q) refl
    where
      go : (o : Option Item) → entry_of i q ≡ o → Aged (moved i n q)
      go none en = rw (en, moved) h
      go (some x) en =
          rw (moved_is i n q x en)
          (aged_before (numbered n x) (without i q) (follows_confirmed 0 (numbered n x) ((is_numbered i n x (first_passes (id_is i) q x en)).follows 0 l))
          (aged_drop (id_is i) q h))

  confirm_aged : (i n : ℕ) (k : Class) → 0 < n → Aged k.queue → Aged (confirm_step i n k).class.queue
  unfolding confirm_step
  confirm_aged i n k l h = go k.queue h
    where
      go : (q : List Item) → Aged q → Aged (confirm_on i n q k.committed k.working).class.queue
      go [] h = tt
      go (x ∷ rest) h =
          by_test (id_is i x)
          (λ y. by_test (is_executed x) (λ e. rw (y, e) h.1) (λ e. rw (y, e) (moved_aged i n (x ∷ rest) l h)))
          (λ y. rw y (moved_aged i n (backed x ∷ rest) l (aged_backed x rest h)))

  query_aged : (p n : ℕ) (k : Class) → Aged k.queue → Aged (query_step p n k).queue
  unfolding query_step
  query_aged p n k h = go k.queue h
    where
      go : (q : List Item) → Aged q → Aged (query_on (reading p n) q k.committed k.working).queue
      go [] h = (tt, tt)
      go (x ∷ rest) h = aged_before (reading p n) (backed x ∷ rest) refl (aged_backed x rest h)

-- AN OFFER of a new id m: it is younger than all that are there
module _ (young : ℕ → ℕ → Bool) (m : ℕ) where
  abbrev with_m : ℕ → ℕ → Bool
  with_m i j = cond (eqb i m) false (cond (eqb j m) true (young i j))

  -- of ids other than m
  still_young : (i j : ℕ) → eqb i m ≡ false → young i j ≡ true → with_m i j ≡ true
  still_young i j n h = by_test (eqb j m) (λ t. rw (n, t)) (λ f. rw (n, f) h)

  aged_still : (q : List Item) → All (OfRequest (λ e. eqb (id_of e) m ≡ false)) q → Aged young q → Aged with_m q
  aged_still [] n h = tt
  aged_still (booking e ∷ q) n h = (
    (λ w. each_request (OfRequest (λ z. young (id_of e) (id_of z) ≡ true)) (λ z. with_m (id_of e) (id_of z) ≡ true)
        (λ z p. still_young (id_of e) (id_of z) n.0 p) q (h.0 w)),
    aged_still q n.1 h.1,
  )
  aged_still (reading p b ∷ q) n h = (tt, aged_still q n.1 h.1)

  aged_append : (x : Entry) → id_of x ≡ m → (q : List Item) → All (OfRequest (λ e. eqb (id_of e) m ≡ false)) q → Aged with_m q
      → Aged with_m (q ++ (booking x ∷ []))
  aged_append x is [] n h = ((λ w. tt), tt)
  aged_append x is (booking e ∷ q) n h = (
    (λ w. all_append (OfRequest (λ z. with_m (id_of e) (id_of z) ≡ true)) q (booking x) (rw (n.0, eq-eqb (id_of x) m is)) (h.0 w)),
    aged_append x is q n.1 h.1,
  )
  aged_append x is (reading p b ∷ q) n h = (tt, aged_append x is q n.1 h.1)

-- NEWS that nothing came: work's, look's and a confirmation's
abbrev pub Quiet : News → Type 0
Quiet (came i c) = ⊥
Quiet (confirmed i) = Unit
Quiet (began m) = Unit
Quiet other = Unit

quiet_aged : (n : News) (t : List News) → Quiet n → (q : List Item) → Aged (λ i j. came_after i j t) q → Aged (λ i j. came_after i j (n ∷ t)) q
quiet_aged (came i c) t z q h = absurd z
quiet_aged (confirmed i) t z q h = h
quiet_aged (began m) t z q h = h
quiet_aged other t z q h = h

pub work_quiet : (k : Class) → Quiet (news_of 0 (work_step k).answer)
unfolding work_step
work_quiet k = go k.queue
  where
    go : (q : List Item) → Quiet (news_of 0 (work_on q k.committed k.working).answer)
    go [] = tt
    go (reading p b ∷ rest) = tt
    go (booking e ∷ rest) =
        by_test (is_executed (booking (advanced e (tried e k.working))))
        (λ x. by_test (is_confirmed (booking e)) (λ t. rw (x, t) tt) (λ f. rw (x, f) tt))
        (λ x. rw x tt)

pub look_tells : (i : ℕ) (k : Class) → news_of 0 (look_answer i k) ≡ other
look_tells i k = by_test (confirmed_at (entry_of i k.queue)) (λ y. rw y) (λ f. rw f)

pub confirm_tells : (i n : ℕ) (k : Class) → news_of 0 (confirm_step i n k).answer ≡ confirmed i
unfolding confirm_step
confirm_tells i n k = go k.queue
  where
    go : (q : List Item) → news_of 0 (confirm_on i n q k.committed k.working).answer ≡ confirmed i
    go [] = refl
    go (reading p b ∷ rest) = refl
    go (booking x ∷ rest) =
        by_test (id_is i (booking x))
        (λ y. by_test (is_executed (booking x)) (λ e. rw (y, e) (ap confirmed (eqb-true (id_of x) i y))) (λ e. rw (y, e)))
        (λ y. rw y)

-- ON A SITE: every call, with what its answer tells
abbrev AgedSite : List News → Site → Type 0
AgedSite t s = (c : ℕ) → c < 16 → Aged (λ i j. came_after i j t) (s.class c).queue

module _ (t : List News) (s : Site) (h : AgedSite t s) where
  -- a step in one class
  step_aged : (c : ℕ) (new : Option ℕ) (d : Did) → Quiet (news_of 0 d.answer) → Aged (λ i j. came_after i j t) d.class.queue
      → AgedSite (news_of 0 d.answer ∷ t) (in_class s c new d).site
  step_aged c new d z g e m =
      quiet_aged (news_of 0 d.answer) t z ((in_class s c new d).site.class e).queue (by_test (eqb e c) (λ y. rw y g) (λ f. rw f (h e m)))

  offer_aged : (b : List ℕ) → accepts s (offer b) ≡ true → AgedSite (news_of 0 (act s (offer b)).answer ∷ t) (act s (offer b)).site
  unfolding act offer_step
  offer_aged b a e m =
      by_test (eqb e r.class)
      (λ y. rw y (aged_append young r.id (new_entry r (slot_free s)) refl (s.class r.class).queue (new_id s b a r.class l) (old r.class l)))
      (λ f. rw f (old e m))
    where
      r : Request
      r = request_in b

      young : ℕ → ℕ → Bool
      young i j = came_after i j t

      l : r.class < 16
      l = (offer_accepted s b a).class

      old : (c : ℕ) → c < 16 → Aged (with_m young r.id) (s.class c).queue
      old c l = aged_still young r.id (s.class c).queue (new_id s b a c l) (h c l)

  call_aged : (k : Call) → AgedSite (news_of (mask_of k) (call s k).answer ∷ t) (call s k).site
  unfolding call act
  call_aged k = by_test (accepts s k) (λ y. rw y (go k y)) (λ f. rw f h)
    where
      go : (k : Call) → accepts s k ≡ true → AgedSite (news_of (mask_of k) (act s k).answer ∷ t) (act s k).site
      go (offer b) a = offer_aged b a
      go (work c) a =
          step_aged c none (work_step (s.class c)) (work_quiet (s.class c))
          (work_aged (λ i j. came_after i j t) (s.class c) (h c (work_accepted s c a).0))
      go (confirm i n) a =
          let f = confirm_accepted s i n a in
          let k = s.class (class_of s i) in
          step_aged (class_of s i) (some i) (confirm_step i n k) (subst Quiet (sym (confirm_tells i n k)) tt)
          (confirm_aged (λ i j. came_after i j t) i n k (omega (arith, f.next)) (h (class_of s i) f.known))
      go (read c k) a = h
      go (look i) a = subst (λ (n : News). AgedSite (n ∷ t) s) (sym (look_tells i (s.class (class_of s i)))) h
      go (query m) a = λ c l. by_test (named m c)
          (λ y. rw y (query_aged (λ i j. came_after i j t) (free_place s) s.confirmations (s.class c) (h c l)))
          (λ f. rw f (h c l))

-- after any history from fresh
pub aged : (h : List Call) → AgedSite (news h) (after h)
unfolding after news
aged [] = unfold fresh in (λ c l. tt)
aged (k ∷ h) = call_aged (news h) (after h) (aged h) k
