-- From a fresh site, the count of a queued request is how many accepted confirmations and queries put it back since its offer, and look and its
-- commit answer it.
-- Assumes nothing.
use Prim.Native.Nat.{ℕ, suc, ◌<◌, ◌≤◌}
use native.Mathlib.Omega.{arith}
use mathlib.Core.Path.{◌≡◌, refl, sym, ap, subst, ◌∙◌}
use mathlib.Core.Bool.{Bool, true, false, cond}
use mathlib.Core.Logic.{inl, inr}
use mathlib.Core.List.{List, [], ◌∷◌}
use mathlib.Core.Option.{Option, none, some}
use lib.Dec.{eqb}
use borrow.Author.Tests.{eqb-false, eq-eqb, ne_eqb}
use Rattle.plain.specs.Record.{request_in}
use Rattle.plain.specs.Queue.{Entry, Item, booking, reading, id_of, is_executed, id_is, is_confirmed, any, count, has, owed}
use Rattle.plain.specs.Steps.{Class, Did, Answer, refused, committed, to_do, unconfirmed, new_entry, tried, put_back, advanced, work_on, work_step, offer_step}
use Rattle.plain.specs.Steps.{begun, ending, numbered, backed, back_id, confirm_on, confirm_step, query_on, query_step}
use Rattle.plain.specs.Site.{Site, Call, offer, work, confirm, read, look, query, fresh, call, act, accepts, class_of, slot_free, in_class}
use Rattle.plain.specs.Site.{standing, entry_at, confirmed_at, commits_by, named, free_place, begins}
use Rattle.plain.specs.Sound.{All, OfRequest, Belongs, SoundSite}
use Rattle.plain.specs.History.{after, mask_of, head_back, back_by, count_back, put_backs}
use Rattle.plain.specs.Demands.{Shows, CountedBack}
use Rattle.plain.proofs.Tests.{by_test, no, or_left}
use Rattle.plain.proofs.Sums.{sum_term}
use Rattle.plain.proofs.Items.{is_valid}
use Rattle.plain.proofs.Queues.{all_append, all_before, all_requests, each_request, all_first, find_request, none_passes, count_some}
use Rattle.plain.proofs.Sites.{one_class, standing_some, class_found, class_is, not_queued}
use Rattle.plain.proofs.Sites.{work_accepted, offer_accepted, confirm_accepted, look_accepted}
use Rattle.plain.proofs.Backs.{work_all, moved_all, query_all}
use Rattle.plain.proofs.Demand2.{after_sound}

-- IDS of a sound site: each of a queue is there, none is 0, and none is that of another
there : (q : List Item) → All (OfRequest (λ e. has (id_of e) q ≡ true)) q
there q = go q q (λ e h. h)
  where
    go : (p q : List Item) → ((e : Entry) → has (id_of e) q ≡ true → has (id_of e) p ≡ true) → All (OfRequest (λ e. has (id_of e) p ≡ true)) q
    go p [] f = tt
    go p (booking x ∷ q) f =
        (f x (rw (eq-eqb (id_of x) (id_of x) refl)), go p q (λ e h. f e (by_test (id_is (id_of e) (booking x)) (λ t. rw t) (λ g. rw g h))))
    go p (reading n b ∷ q) f = (tt, go p q f)

pub none_zero : (c : ℕ) (q : List Item) → All (Belongs c) q → All (OfRequest (λ e. eqb (id_of e) 0 ≡ false)) q
none_zero c q b =
    each_request (Belongs c) (λ e. eqb (id_of e) 0 ≡ false) (λ e h. ne_eqb (id_of e) 0 (is_valid e.request h.valid).id) q b

pub head_alone : (x : Entry) (rest : List Item) → count (id_is (id_of x)) (booking x ∷ rest) ≤ 1 → All (OfRequest (λ e. eqb (id_of e) (id_of x) ≡ false)) rest
head_alone x rest u =
    each_request (λ e. id_is (id_of x) e ≡ false) (λ e. eqb (id_of e) (id_of x) ≡ false) (λ e h. h) rest
    (none_passes (id_is (id_of x)) rest (by_test (any (id_is (id_of x)) rest)
    (λ t. let u' = rw (eq-eqb (id_of x) (id_of x) refl) at u in absurd (omega (arith, count_some (id_is (id_of x)) rest t)))
    (λ f. f)))

-- ANSWERS. Work's count nothing, and a confirmation's none that is not queued in its class
module _ (s : Site) (mask : ℕ) where
  pub work_silent : (k : Class) (j m : ℕ) → count_back j s mask (work_step k).answer m ≡ m
  unfolding work_step
  work_silent k j m = go k.queue
    where
      go : (q : List Item) → count_back j s mask (work_on q k.committed k.working).answer m ≡ m
      go [] = refl
      go (reading p b ∷ rest) = refl
      go (booking e ∷ rest) =
          by_test (is_executed (booking (advanced e (tried e k.working))))
          (λ x. by_test (is_confirmed (booking e)) (λ t. rw (x, t)) (λ g. rw (x, g)))
          (λ x. rw x)

  confirm_silent : (i n : ℕ) (k : Class) (j m : ℕ) → eqb j 0 ≡ false → has j k.queue ≡ false → count_back j s mask (confirm_step i n k).answer m ≡ m
  unfolding confirm_step
  confirm_silent i n k j m z a = go k.queue a
    where
      go : (q : List Item) → has j q ≡ false → count_back j s mask (confirm_on i n q k.committed k.working).answer m ≡ m
      go [] a = rw z
      go (reading p b ∷ rest) a = rw z
      go (booking x ∷ rest) a =
          let ne : eqb j (id_of x) ≡ false = ne_eqb j (id_of x) (λ p. eqb-false (id_of x) j (or_left (id_is j (booking x)) (has j rest) a) (sym p)) in
          by_test (id_is i (booking x))
          (λ y. by_test (is_executed (booking x)) (λ e. rw (y, e)) (λ e. rw (y, e, z)))
          (λ y. rw y (by_test (is_confirmed (booking x)) (λ t. rw (t, z)) (λ g. rw (g, ne))))

-- BY AN ANSWER. With f for what was counted before it
module _ (f : ℕ → ℕ) where
  abbrev Before : Entry → Type 0
  Before e = e.backs ≡ f (id_of e)

  -- what a step puts back under the id b, one more
  abbrev Back : ℕ → Entry → Type 0
  Back b e = e.backs ≡ cond (eqb (id_of e) b) (suc (f (id_of e))) (f (id_of e))

  -- what does not name one of the queue leaves it
  unnamed : (b : ℕ) (q : List Item) → All (OfRequest (λ e. eqb (id_of e) b ≡ false)) q → All (OfRequest Before) q → All (OfRequest (Back b)) q
  unnamed b = all_requests (λ e. eqb (id_of e) b ≡ false) Before (Back b) (λ e g p. rw g p)

  -- the head that is put back, if it waits, and no other of the class
  head_back_lem : (x : Item) (rest : List Item) → All (OfRequest (λ e. eqb (id_of e) 0 ≡ false)) (x ∷ rest) → ((j : ℕ) → count (id_is j) (x ∷ rest) ≤ 1)
      → All (OfRequest Before) (x ∷ rest) → All (OfRequest (Back (back_id x))) (backed x ∷ rest)
  head_back_lem (reading p b) rest z u h = unnamed 0 (reading p b ∷ rest) z h
  head_back_lem (booking x) rest z u h =
      by_test (is_confirmed (booking x))
      (λ t. let none : back_id (booking x) ≡ 0 = rw t refl in
      let same : backed (booking x) ≡ booking x = rw t refl in
      told_back (sym none) (sym same) (unnamed 0 (booking x ∷ rest) z h))
      (λ g. let its : back_id (booking x) ≡ id_of x = rw g refl in
      let new : backed (booking x) ≡ put_back (booking x) = rw g refl in
      told_back (sym its) (sym new) (rw (eq-eqb (id_of x) (id_of x) refl) (ap suc h.0), unnamed (id_of x) rest (head_alone x rest (u (id_of x))) h.1))
    where
      told_back : {b : ℕ} {y : Item} → b ≡ back_id (booking x) → y ≡ backed (booking x) → All (OfRequest (Back b)) (y ∷ rest)
          → All (OfRequest (Back (back_id (booking x)))) (backed (booking x) ∷ rest)
      told_back {b = b} e f a =
          let P : ℕ → Type 0 = λ n. All (OfRequest (Back n)) (backed (booking x) ∷ rest) in
          let Q : Item → Type 0 = λ y. All (OfRequest (Back b)) (y ∷ rest) in
          subst P e (subst Q f a)

  module _ (s : Site) (mask : ℕ) where
    abbrev Now : Answer → Entry → Type 0
    Now a e = e.backs ≡ count_back (id_of e) s mask a (f (id_of e))

    -- an answer that counts none of them
    unchanged : (a : Answer) (q : List Item) → All (OfRequest (λ e. count_back (id_of e) s mask a (f (id_of e)) ≡ f (id_of e))) q → All (OfRequest Before) q
        → All (OfRequest (Now a)) q
    unchanged a = all_requests (λ e. count_back (id_of e) s mask a (f (id_of e)) ≡ f (id_of e)) Before (Now a) (λ e g p. p ∙ sym g)

    -- a confirmation counts the head that it puts back, and no other of the class
    confirm_now : (i n : ℕ) (k : Class) → All (OfRequest (λ e. eqb (id_of e) 0 ≡ false)) k.queue → ((j : ℕ) → count (id_is j) k.queue ≤ 1)
        → All (OfRequest Before) k.queue → All (OfRequest (Now (confirm_step i n k).answer)) (confirm_step i n k).class.queue
    unfolding confirm_step
    confirm_now i n k z u h = go k.queue z u h
      where
        go : (q : List Item) → All (OfRequest (λ e. eqb (id_of e) 0 ≡ false)) q → ((j : ℕ) → count (id_is j) q ≤ 1) → All (OfRequest Before) q
            → All (OfRequest (Now (confirm_on i n q k.committed k.working).answer)) (confirm_on i n q k.committed k.working).class.queue
        go [] z u h = tt
        go (x ∷ rest) z u h =
            by_test (id_is i x)
            (λ y. by_test (is_executed x)
            (λ e. rw (y, e) (ended x rest h.1 y))
            (λ e. rw (y, e) (moved_all (OfRequest (Back 0)) i n (λ e b. b) (x ∷ rest) (unnamed 0 (x ∷ rest) z h))))
            (λ y. rw y (moved_all (OfRequest (Back (back_id x))) i n (λ e b. b) (backed x ∷ rest) (head_back_lem x rest z u h)))
          where
            ended : (x : Item) (rest : List Item) → All (OfRequest Before) rest → id_is i x ≡ true
                → All (OfRequest (Now (ending (numbered n x) k.working))) rest
            ended (booking x) rest h y = h
            ended (reading p b) rest h y = no _ y refl

  -- and so does a query
  query_back : (p n : ℕ) (k : Class) → All (OfRequest (λ e. eqb (id_of e) 0 ≡ false)) k.queue → ((j : ℕ) → count (id_is j) k.queue ≤ 1)
      → All (OfRequest Before) k.queue → All (OfRequest (Back (head_back k.queue))) (query_step p n k).queue
  unfolding query_step
  query_back p n k z u h = go k.queue z u h
    where
      go : (q : List Item) → All (OfRequest (λ e. eqb (id_of e) 0 ≡ false)) q → ((j : ℕ) → count (id_is j) q ≤ 1) → All (OfRequest Before) q
          → All (OfRequest (Back (head_back q))) (query_on (reading p n) q k.committed k.working).queue
      go [] z u h = (tt, tt)
      go (x ∷ rest) z u h = all_before (OfRequest (Back (back_id x))) (reading p n) (backed x ∷ rest) tt (head_back_lem x rest z u h)

-- in a class of a sound site an id stands once at most
pub once : (s : Site) → SoundSite s → (c : ℕ) → c < 16 → (j : ℕ) → count (id_is j) (s.class c).queue ≤ 1
unfolding standing
once s w c l j = omega (arith, w.ids j, sum_term (λ c. count (id_is j) (s.class c).queue) 16 c l)

-- nothing of the site has the id that an accepted offer brings
pub new_id : (s : Site) (b : List ℕ) → accepts s (offer b) ≡ true → (c : ℕ) → c < 16
    → All (OfRequest (λ e. eqb (id_of e) (request_in b).id ≡ false)) (s.class c).queue
new_id s b a c l =
    each_request (λ e. id_is i e ≡ false) (λ e. eqb (id_of e) i ≡ false) (λ e h. h) (s.class c).queue
    (none_passes (id_is i) (s.class c).queue (by_test (any (id_is i) (s.class c).queue)
    (λ t. absurd (omega (arith, standing_some (id_is i) s c l t, not_queued s i (offer_accepted s b a).unknown)))
    (λ g. g)))
  where
    i : ℕ
    i = (request_in b).id

-- ON A SITE: a call's answer counts what the call did
abbrev pub Counted : (ℕ → ℕ) → Site → Type 0
Counted f s = (c : ℕ) → c < 16 → All (OfRequest (λ e. e.backs ≡ f (id_of e))) (s.class c).queue

module _ (f : ℕ → ℕ) (s : Site) (w : SoundSite s) (h : Counted f s) where
  abbrev after_answer : Call → Answer → ℕ → ℕ
  after_answer k a i = count_back i s (mask_of k) a (f i)

  -- a step in one class, if its answer names none of the others
  step_counted : (k : Call) (c : ℕ) (new : Option ℕ) (d : Did) → c < 16 → All (OfRequest (Now f s (mask_of k) d.answer)) d.class.queue
      → ((e : ℕ) → e < 16 → (e ≡ c → ⊥) → All (OfRequest (Now f s (mask_of k) d.answer)) (s.class e).queue)
      → Counted (after_answer k d.answer) (in_class s c new d).site
  step_counted k c new d l g o e m = by_test (eqb e c) (λ t. rw t g) (λ n. rw n (o e m (eqb-false e c n)))

  -- the ids of other classes are not queued in this one
  apart : (c : ℕ) → c < 16 → (e : ℕ) → e < 16 → (e ≡ c → ⊥) → All (OfRequest (λ x. has (id_of x) (s.class c).queue ≡ false)) (s.class e).queue
  apart c l e m n =
      each_request (OfRequest (λ x. has (id_of x) (s.class e).queue ≡ true)) (λ x. has (id_of x) (s.class c).queue ≡ false)
      (λ x t. by_test (has (id_of x) (s.class c).queue) (λ y. absurd (n (one_class (id_is (id_of x)) s (w.ids (id_of x)) e c m l t y))) (λ g. g))
      (s.class e).queue (there (s.class e).queue)

  zero : (e : ℕ) → e < 16 → All (OfRequest (λ x. eqb (id_of x) 0 ≡ false)) (s.class e).queue
  zero e m = none_zero e (s.class e).queue (w.each e m).belong

  offer_counted : (b : List ℕ) → accepts s (offer b) ≡ true → Counted (after_answer (offer b) (act s (offer b)).answer) (act s (offer b)).site
  unfolding act offer_step
  offer_counted b a =
      step_counted (offer b) c none (offer_step (request_in b) (slot_free s) (s.class c)) l
      (all_append (OfRequest (λ x. x.backs ≡ cond (eqb (id_of x) i) 0 (f (id_of x)))) (s.class c).queue (booking (new_entry (request_in b) (slot_free s))) new (old c l))
      (λ e m n. old e m)
    where
      c : ℕ
      c = (request_in b).class

      i : ℕ
      i = (request_in b).id

      l : c < 16
      l = (offer_accepted s b a).class

      new : 0 ≡ cond (eqb i i) 0 (f i)
      new = sym (ap (λ (t : Bool). cond t 0 (f i)) (eq-eqb i i refl))

      old : (e : ℕ) → e < 16 → All (OfRequest (λ x. x.backs ≡ cond (eqb (id_of x) i) 0 (f (id_of x)))) (s.class e).queue
      old e m =
          all_requests (λ x. eqb (id_of x) i ≡ false) (Before f) (λ x. x.backs ≡ cond (eqb (id_of x) i) 0 (f (id_of x))) (λ x g p. rw g p)
          (s.class e).queue (new_id s b a e m) (h e m)

  work_counted : (c : ℕ) → accepts s (work c) ≡ true → Counted (after_answer (work c) (act s (work c)).answer) (act s (work c)).site
  unfolding act
  work_counted c a =
      step_counted (work c) c none d l
      (each_request (OfRequest (Before f)) (Now f s 0 d.answer) silent d.class.queue (work_all (OfRequest (Before f)) (λ e t b. b) (s.class c) (h c l)))
      (λ e m n. each_request (OfRequest (Before f)) (Now f s 0 d.answer) silent (s.class e).queue (h e m))
    where
      l : c < 16
      l = (work_accepted s c a).0

      d : Did
      d = work_step (s.class c)

      silent : (x : Entry) → Before f x → Now f s 0 d.answer x
      silent x p = p ∙ sym (work_silent s 0 (s.class c) (id_of x) (f (id_of x)))

  confirm_counted : (i n : ℕ) → accepts s (confirm i n) ≡ true → Counted (after_answer (confirm i n) (act s (confirm i n)).answer) (act s (confirm i n)).site
  unfolding act
  confirm_counted i n a =
      step_counted (confirm i n) c (some i) (confirm_step i n k) l (confirm_now f s 0 i n k (zero c l) (once s w c l) (h c l))
      (λ e m ne. unchanged f s 0 (confirm_step i n k).answer (s.class e).queue (silent e m ne) (h e m))
    where
      c : ℕ
      c = class_of s i

      l : c < 16
      l = (confirm_accepted s i n a).known

      k : Class
      k = s.class c

      silent : (e : ℕ) → e < 16 → (e ≡ c → ⊥)
          → All (OfRequest (λ x. count_back (id_of x) s 0 (confirm_step i n k).answer (f (id_of x)) ≡ f (id_of x))) (s.class e).queue
      silent e m ne =
          all_requests (λ x. eqb (id_of x) 0 ≡ false) (λ x. has (id_of x) k.queue ≡ false)
          (λ x. count_back (id_of x) s 0 (confirm_step i n k).answer (f (id_of x)) ≡ f (id_of x))
          (λ x z o. confirm_silent s 0 i n k (id_of x) (f (id_of x)) z o) (s.class e).queue (zero e m) (apart c l e m ne)

  -- the requests of a class, and their class
  mine : (c : ℕ) → c < 16 → All (OfRequest (λ x. class_of s (id_of x) ≡ c)) (s.class c).queue
  mine c l =
      each_request (OfRequest (λ x. has (id_of x) (s.class c).queue ≡ true)) (λ x. class_of s (id_of x) ≡ c)
      (λ x t. class_is s (id_of x) c w l t) (s.class c).queue (there (s.class c).queue)

  query_counted : (m : ℕ) → accepts s (query m) ≡ true → Counted (after_answer (query m) (begun (free_place s))) (begins s m)
  unfolding back_by
  query_counted m a c l =
      by_test (named m c)
      (λ t. rw t (all_requests (λ x. class_of s (id_of x) ≡ c) (Back f (head_back q)) (λ x. x.backs ≡ count_back (id_of x) s m (begun (free_place s)) (f (id_of x)))
      (λ x is b. rw (is, t) b) (query_step (free_place s) s.confirmations (s.class c)).queue
      (query_all (OfRequest (λ x. class_of s (id_of x) ≡ c)) (λ x p. p) (free_place s) s.confirmations tt (s.class c) (mine c l))
      (query_back f (free_place s) s.confirmations (s.class c) (zero c l) (once s w c l) (h c l))))
      (λ g. rw g (all_requests (λ x. class_of s (id_of x) ≡ c) (Before f) (λ x. x.backs ≡ count_back (id_of x) s m (begun (free_place s)) (f (id_of x)))
      (λ x is b. rw (is, g) b) q (mine c l) (h c l)))
    where
      q : List Item
      q = (s.class c).queue

  call_counted : (k : Call) → Counted (after_answer k (call s k).answer) (call s k).site
  unfolding call act
  call_counted k = by_test (accepts s k) (λ t. rw t (go k t)) (λ g. rw g h)
    where
      go : (k : Call) → accepts s k ≡ true → Counted (after_answer k (act s k).answer) (act s k).site
      go (offer b) a = offer_counted b a
      go (work c) a = work_counted c a
      go (confirm i n) a = confirm_counted i n a
      go (read c k) a = h
      go (look i) a = by_test (confirmed_at (entry_at s i)) (λ t. rw t h) (λ g. rw g h)
      go (query m) a = query_counted m a

-- A COMMIT answers the count with which the request was queued
module _ (f : ℕ → ℕ) (i n d j b : ℕ) where
  work_ends : (k : Class) → All (OfRequest (Before f)) k.queue → (work_step k).answer ≡ committed i n d j b → b ≡ f i
  unfolding work_step
  work_ends k h = go k.queue h
    where
      go : (q : List Item) → All (OfRequest (Before f)) q → (work_on q k.committed k.working).answer ≡ committed i n d j b → b ≡ f i
      go [] h a = let z : ◌≡◌ {A = ℕ} 0 1 = cc in absurd (omega arith)
      go (reading p b ∷ rest) h a = let z : ◌≡◌ {A = ℕ} 0 1 = cc in absurd (omega arith)
      go (booking e ∷ rest) h a =
          by_test (is_executed (booking (advanced e (tried e k.working))))
          (λ x. by_test (is_confirmed (booking e))
          (λ t. let p : e.backs ≡ b = cc (rw (x, t) at a) in let q : id_of e ≡ i = cc (rw (x, t) at a) in sym p ∙ h.0 ∙ ap f q)
          (λ t. let z : ◌≡◌ {A = ℕ} 0 1 = cc (rw (x, t) at a) in absurd (omega arith)))
          (λ x. let z : ◌≡◌ {A = ℕ} 0 1 = cc (rw x at a) in absurd (omega arith))

  confirm_ends : (m l : ℕ) (k : Class) → All (OfRequest (Before f)) k.queue → (confirm_step m l k).answer ≡ committed i n d j b → b ≡ f i
  unfolding confirm_step
  confirm_ends m l k h = go k.queue h
    where
      go : (q : List Item) → All (OfRequest (Before f)) q → (confirm_on m l q k.committed k.working).answer ≡ committed i n d j b → b ≡ f i
      go [] h a = let z : ◌≡◌ {A = ℕ} 0 1 = cc in absurd (omega arith)
      go (reading p b ∷ rest) h a = let z : ◌≡◌ {A = ℕ} 0 1 = cc in absurd (omega arith)
      go (booking x ∷ rest) h a =
          by_test (id_is m (booking x))
          (λ y. by_test (is_executed (booking x))
          (λ e. let p : x.backs ≡ b = cc (rw (y, e) at a) in let q : id_of x ≡ i = cc (rw (y, e) at a) in sym p ∙ h.0 ∙ ap f q)
          (λ e. let z : ◌≡◌ {A = ℕ} 0 1 = cc (rw (y, e) at a) in absurd (omega arith)))
          (λ y. let z : ◌≡◌ {A = ℕ} 0 1 = cc (rw y at a) in absurd (omega arith))

  pub call_ends : (s : Site) → Counted f s → (k : Call) → (call s k).answer ≡ committed i n d j b → b ≡ f i
  unfolding call act offer_step
  call_ends s h k e =
      by_test (accepts s k)
      (λ a. go k a (rw a at e))
      (λ g. let z : ◌≡◌ {A = ℕ} 0 1 = cc (rw g at e) in absurd (omega arith))
    where
      other : (a : Answer) → commits_by a ≡ 0 → a ≡ committed i n d j b → b ≡ f i
      other a z e = let o : ◌≡◌ {A = ℕ} 0 1 = sym z ∙ ap commits_by e in absurd (omega arith)

      go : (k : Call) → accepts s k ≡ true → (act s k).answer ≡ committed i n d j b → b ≡ f i
      go (offer r) a e = other _ refl e
      go (work c) a e = work_ends (s.class c) (h c (work_accepted s c a).0) e
      go (confirm m l) a e = confirm_ends m l (s.class (class_of s m)) (h (class_of s m) (confirm_accepted s m l a).known) e
      go (read c x) a e = other _ refl e
      go (look m) a e = by_test (confirmed_at (entry_at s m)) (λ t. other _ refl (rw t at e)) (λ g. other _ refl (rw g at e))
      go (query m) a e = other _ refl e

-- LOOK answers the count with which the request is queued
pub look_shows : (f : ℕ → ℕ) (s : Site) → Counted f s → (i b : ℕ) → Shows (call s (look i)).answer b → b ≡ f i
unfolding call act
look_shows f s h i b sh = by_test (accepts s (look i)) (λ a. accepted a (rw a at sh)) (λ g. refuses (rw g at sh))
  where
    refuses : {n : ℕ} → Shows (refused n) b → b ≡ f i
    refuses (inl p) = let e = p.1 in let z : ◌≡◌ {A = ℕ} 0 1 = cc in absurd (omega arith)
    refuses (inr e) = let z : ◌≡◌ {A = ℕ} 0 1 = cc in absurd (omega arith)

    told : (w n : ℕ) → (c : Bool) → Shows (cond c (to_do w n) (unconfirmed n)) b → n ≡ b
    told w n true (inl p) = let e = p.1 in cc
    told w n true (inr e) = let z : ◌≡◌ {A = ℕ} 0 1 = cc in absurd (omega arith)
    told w n false (inl p) = let e = p.1 in let z : ◌≡◌ {A = ℕ} 0 1 = cc in absurd (omega arith)
    told w n false (inr e) = cc

    accepted : accepts s (look i) ≡ true → Shows (act s (look i)).answer b → b ≡ f i
    accepted a sh =
        let l = look_accepted s i a in
        let q = (s.class (class_of s i)).queue in
        let x = find_request i q (class_found s i l) in
        let e : x.0.backs ≡ b = told (owed i q) x.0.backs (is_confirmed (booking x.0)) (rw x.1 at sh) in
        sym e ∙ all_first (OfRequest (Before f)) (id_is i) q (booking x.0) x.1 (h (class_of s i) l) ∙ ap f x.2

-- THE PROMISE, after any history from fresh
counts : (h : List Call) → Counted (λ i. put_backs i h) (after h)
unfolding after put_backs
counts [] = unfold fresh in (λ c l. tt)
counts (k ∷ h) = call_counted (λ i. put_backs i h) (after h) (after_sound h) (counts h) k

pub counted_back : (h : List Call) → CountedBack h
counted_back h = record {
  of_queued = counts h;
  of_looked = look_shows (λ m. put_backs m h) (after h) (counts h);
  of_committed = λ k i n d j b. call_ends (λ m. put_backs m h) i n d j b (after h) (counts h) k;
}
