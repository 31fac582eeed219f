-- What the callers were told is so, after any history from fresh: a queued request stands in the class into which it came, and is told to wait as long
-- as it does. Assumes nothing.
use Prim.Native.Nat.{ℕ, ◌<◌, ◌≤◌}
use native.Mathlib.Omega.{arith}
use mathlib.Core.Path.{◌≡◌, refl, sym, subst}
use mathlib.Core.Logic.{◌⊎◌, inl, inr}
use mathlib.Core.Bool.{true, false}
use mathlib.Core.Option.{Option, none, some}
use mathlib.Core.List.{List, [], ◌∷◌}
use lib.Dec.{eqb}
use borrow.Author.Tests.{eqb-true, eqb-false, eq-eqb, lt-ltb}
use Rattle.plain.specs.Ops.{Request}
use Rattle.plain.specs.Record.{request_in}
use Rattle.plain.specs.Queue.{Entry, Item, booking, reading, id_of, is_executed, id_is, is_confirmed, any, count, has, entry_of, without}
use Rattle.plain.specs.Steps.{Class, Did, new_entry, tried, advanced, work_on, work_step, offer_step}
use Rattle.plain.specs.Steps.{numbered, backed, moved, confirm_on, confirm_step}
use Rattle.plain.specs.Site.{Site, Call, offer, work, confirm, read, look, query, fresh, call, act, accepts, class_of, slot_free, free_place, named}
use Rattle.plain.specs.Site.{in_class}
use Rattle.plain.specs.Sound.{All, OfRequest, SoundSite}
use Rattle.plain.specs.History.{after, mask_of}
use Rattle.plain.specs.Told.{News, came, confirmed, other, news_of, news, class_told, waits}
use Rattle.plain.proofs.Tests.{by_test, no}
use Rattle.plain.proofs.Queues.{all_append, all_before, all_requests, each_request, find_request, none_passes, count_some, count_drop}
use Rattle.plain.proofs.Confirming.{moved_is}
use Rattle.plain.proofs.Sites.{one_class, class_found, confirm_accepted, offer_accepted, work_accepted}
use Rattle.plain.proofs.Backs.{moved_all, query_all}
use Rattle.plain.proofs.Demand2.{after_sound}
use Rattle.plain.proofs.PutBacks.{head_alone, once, new_id}
use Rattle.plain.proofs.Ages.{look_tells, confirm_tells}

-- what is told of a queued request of class c
abbrev pub Known : List News → ℕ → Entry → Type 0
Known t c e = (class_told (id_of e) t ≡ c) × (is_confirmed (booking e) ≡ false → waits (id_of e) t ≡ true)

-- THAT j IS CONFIRMED says nothing of a request that is not j, or is confirmed
abbrev Apart : ℕ → Entry → Type 0
Apart j e = is_confirmed (booking e) ≡ false → eqb (id_of e) j ≡ false

known_still : (t : List News) (j c : ℕ) (q : List Item) → All (OfRequest (Apart j)) q → All (OfRequest (Known t c)) q
    → All (OfRequest (Known (confirmed j ∷ t) c)) q
known_still t j c = all_requests (Apart j) (Known t c) (Known (confirmed j ∷ t) c) (λ e a k. (k.0, λ f. rw (a f) (k.1 f)))

none_apart : (j : ℕ) (q : List Item) → any (id_is j) q ≡ false → All (OfRequest (Apart j)) q
none_apart j q f = each_request (λ x. id_is j x ≡ false) (Apart j) (λ e g w. g) q (none_passes (id_is j) q f)

-- a confirmation of j leaves no waiting request of that id in its class
moved_apart : (j n : ℕ) (q : List Item) → 0 < n → has j q ≡ true → count (id_is j) q ≤ 1 → All (OfRequest (Apart j)) (moved j n q)
moved_apart j n q l h u =
    let z = find_request j q h in
    rw (moved_is j n q (booking z.0) z.1)
    (all_before (OfRequest (Apart j)) (numbered n (booking z.0)) (without j q) (λ f. no _ (lt-ltb 0 n l) f)
    (none_apart j (without j q) (left z.0 z.1 z.2)))
  where
    left : (e : Entry) → entry_of j q ≡ some (booking e) → id_of e ≡ j → any (id_is j) (without j q) ≡ false
    left e en is =
        by_test (any (id_is j) (without j q))
        (λ t. let d = count_drop (id_is j) (id_is j) q (booking e) en in
        absurd (omega (arith, rw (eq-eqb (id_of e) j is) at d, count_some (id_is j) (without j q) t)))
        (λ f. f)

-- CONFIRM
module _ (j n : ℕ) (l : 0 < n) where
  confirm_apart : (k : Class) → has j k.queue ≡ true → count (id_is j) k.queue ≤ 1 → All (OfRequest (Apart j)) (confirm_step j n k).class.queue
  unfolding confirm_step
  confirm_apart k h u = go k.queue h u
    where
      backed_is : (x : Item) → id_is j (backed x) ≡ id_is j x
      backed_is (booking e) = by_test (is_confirmed (booking e)) (λ y. rw y) (λ f. rw f)
      backed_is (reading p b) = refl

      go : (q : List Item) → has j q ≡ true → count (id_is j) q ≤ 1 → All (OfRequest (Apart j)) (confirm_on j n q k.committed k.working).class.queue
      go [] h u = tt
      go (x ∷ rest) h u =
          by_test (id_is j x)
          (λ y. by_test (is_executed x)
          (λ e. rw (y, e) (none_apart j rest (by_test (any (id_is j) rest)
          (λ z. absurd (omega (arith, rw y at u, count_some (id_is j) rest z)))
          (λ f. f))))
          (λ e. rw (y, e) (moved_apart j n (x ∷ rest) l h u)))
          (λ y. rw y (moved_apart j n (backed x ∷ rest) l (rw (backed_is x) h) (rw (backed_is x) u)))

  confirm_keeps : (t : List News) (c : ℕ) (k : Class) → All (OfRequest (Known t c)) k.queue → All (OfRequest (Known t c)) (confirm_step j n k).class.queue
  unfolding confirm_step
  confirm_keeps t c k h = go k.queue h
    where
      number : (e : Entry) → Known t c e → OfRequest (Known t c) (numbered n (booking e))
      number e p = (p.0, λ f. no _ (lt-ltb 0 n l) f)

      back : (x : Item) → OfRequest (Known t c) x → OfRequest (Known t c) (backed x)
      back (booking e) p = by_test (is_confirmed (booking e)) (λ y. rw y p) (λ f. rw f p)
      back (reading p b) h = tt

      go : (q : List Item) → All (OfRequest (Known t c)) q → All (OfRequest (Known t c)) (confirm_on j n q k.committed k.working).class.queue
      go [] h = tt
      go (x ∷ rest) h =
          by_test (id_is j x)
          (λ y. by_test (is_executed x) (λ e. rw (y, e) h.1) (λ e. rw (y, e) (moved_all (OfRequest (Known t c)) j n number (x ∷ rest) h)))
          (λ y. rw y (moved_all (OfRequest (Known t c)) j n number (backed x ∷ rest) (back x h.0, h.1)))

-- WORK tells nothing, or that its head is confirmed, which it takes away
work_tells : (k : Class) → (news_of 0 (work_step k).answer ≡ other) ⊎ ((j : ℕ) × (has j k.queue ≡ true) × (news_of 0 (work_step k).answer ≡ confirmed j))
unfolding work_step
work_tells k = go k.queue
  where
    go : (q : List Item) → (news_of 0 (work_on q k.committed k.working).answer ≡ other)
        ⊎ ((j : ℕ) × (has j q ≡ true) × (news_of 0 (work_on q k.committed k.working).answer ≡ confirmed j))
    go [] = inl refl
    go (reading p b ∷ rest) = inl refl
    go (booking e ∷ rest) =
        by_test (is_executed (booking (advanced e (tried e k.working))))
        (λ x. by_test (is_confirmed (booking e))
        (λ y. inr (id_of e, rw (eq-eqb (id_of e) (id_of e) refl), rw (x, y)))
        (λ f. inl (rw (x, f))))
        (λ x. inl (rw x))

work_known : (t : List News) (c : ℕ) (k : Class) → ((j : ℕ) → count (id_is j) k.queue ≤ 1) → All (OfRequest (Known t c)) k.queue
    → All (OfRequest (Known (news_of 0 (work_step k).answer ∷ t) c)) (work_step k).class.queue
unfolding work_step
work_known t c k u h = go k.queue u h
  where
    go : (q : List Item) → ((j : ℕ) → count (id_is j) q ≤ 1) → All (OfRequest (Known t c)) q
        → All (OfRequest (Known (news_of 0 (work_on q k.committed k.working).answer ∷ t) c)) (work_on q k.committed k.working).class.queue
    go [] u h = tt
    go (reading p b ∷ rest) u h = h.1
    go (booking e ∷ rest) u h =
        by_test (is_executed (booking (advanced e (tried e k.working))))
        (λ x. by_test (is_confirmed (booking e))
        (λ y. rw (x, y) (known_still t (id_of e) c rest
        (each_request (OfRequest (λ z. eqb (id_of z) (id_of e) ≡ false)) (Apart (id_of e)) (λ z g w. g) rest (head_alone e rest (u (id_of e)))) h.1))
        (λ f. rw (x, f) h))
        (λ x. rw x h)

-- ON A SITE: every call, with what its answer tells
abbrev KnownSite : List News → Site → Type 0
KnownSite t s = (c : ℕ) → c < 16 → All (OfRequest (Known t c)) (s.class c).queue

module _ (t : List News) (s : Site) (w : SoundSite s) (h : KnownSite t s) where
  -- a step in one class that tells that j of it is confirmed leaves the others
  others_known : (j c : ℕ) → c < 16 → has j (s.class c).queue ≡ true → (e : ℕ) → e < 16 → (e ≡ c → ⊥)
      → All (OfRequest (Known (confirmed j ∷ t) e)) (s.class e).queue
  others_known j c l b e m ne =
      known_still t j e (s.class e).queue (none_apart j (s.class e).queue (by_test (any (id_is j) (s.class e).queue)
      (λ y. absurd (ne (one_class (id_is j) s (w.ids j) e c m l y b)))
      (λ f. f))) (h e m)

  step_known : (c : ℕ) (new : Option ℕ) (d : Did) → All (OfRequest (Known (news_of 0 d.answer ∷ t) c)) d.class.queue
      → ((e : ℕ) → e < 16 → (e ≡ c → ⊥) → All (OfRequest (Known (news_of 0 d.answer ∷ t) e)) (s.class e).queue)
      → KnownSite (news_of 0 d.answer ∷ t) (in_class s c new d).site
  step_known c new d g o e m = by_test (eqb e c) (λ y. rw (y, eqb-true e c y) g) (λ f. rw f (o e m (eqb-false e c f)))

  offer_known : (b : List ℕ) → accepts s (offer b) ≡ true → KnownSite (news_of 0 (act s (offer b)).answer ∷ t) (act s (offer b)).site
  unfolding act offer_step
  offer_known b a =
      step_known c none (offer_step r (slot_free s) (s.class c))
      (all_append (OfRequest (Known (came i c ∷ t) c)) (s.class c).queue (booking (new_entry r (slot_free s)))
      (rw (eq-eqb i i refl), λ f. rw (eq-eqb i i refl)) (old c (offer_accepted s b a).class))
      (λ e m n. old e m)
    where
      r : Request
      r = request_in b

      i : ℕ
      i = r.id

      c : ℕ
      c = r.class

      old : (e : ℕ) → e < 16 → All (OfRequest (Known (came i c ∷ t) e)) (s.class e).queue
      old e m =
          all_requests (λ x. eqb (id_of x) i ≡ false) (Known t e) (Known (came i c ∷ t) e) (λ x g p. (rw g p.0, λ f. rw g (p.1 f)))
          (s.class e).queue (new_id s b a e m) (h e m)

  work_site : (c : ℕ) → accepts s (work c) ≡ true → KnownSite (news_of 0 (act s (work c)).answer ∷ t) (act s (work c)).site
  unfolding act
  work_site c a = step_known c none (work_step k) (work_known t c k (once s w c l) (h c l)) (λ e m ne. go e m ne (work_tells k))
    where
      k : Class
      k = s.class c

      l : c < 16
      l = (work_accepted s c a).0

      go : (e : ℕ) → e < 16 → (e ≡ c → ⊥)
          → (news_of 0 (work_step k).answer ≡ other) ⊎ ((j : ℕ) × (has j k.queue ≡ true) × (news_of 0 (work_step k).answer ≡ confirmed j))
          → All (OfRequest (Known (news_of 0 (work_step k).answer ∷ t) e)) (s.class e).queue
      go e m ne (inl p) = subst (λ (n : News). All (OfRequest (Known (n ∷ t) e)) (s.class e).queue) (sym p) (h e m)
      go e m ne (inr p) =
          subst (λ (n : News). All (OfRequest (Known (n ∷ t) e)) (s.class e).queue) (sym p.2) (others_known p.0 c l p.1 e m ne)

  confirm_site : (j n : ℕ) → accepts s (confirm j n) ≡ true → KnownSite (news_of 0 (act s (confirm j n)).answer ∷ t) (act s (confirm j n)).site
  unfolding act
  confirm_site j n a =
      let f = confirm_accepted s j n a in
      let l : 0 < n = omega (arith, f.next) in
      let b = class_found s j f.known in
      step_known c (some j) (confirm_step j n k)
      (told c (confirm_step j n k).class.queue
      (known_still t j c (confirm_step j n k).class.queue (confirm_apart j n l k b (once s w c f.known j)) (confirm_keeps j n l t c k (h c f.known))))
      (λ e m ne. told e (s.class e).queue (others_known j c f.known b e m ne))
    where
      c : ℕ
      c = class_of s j

      k : Class
      k = s.class c

      told : (e : ℕ) (q : List Item) → All (OfRequest (Known (confirmed j ∷ t) e)) q → All (OfRequest (Known (news_of 0 (confirm_step j n k).answer ∷ t) e)) q
      told e q p = subst (λ (n : News). All (OfRequest (Known (n ∷ t) e)) q) (sym (confirm_tells j n k)) p

  call_known : (k : Call) → KnownSite (news_of (mask_of k) (call s k).answer ∷ t) (call s k).site
  unfolding call act
  call_known k = by_test (accepts s k) (λ y. rw y (go k y)) (λ f. rw f h)
    where
      go : (k : Call) → accepts s k ≡ true → KnownSite (news_of (mask_of k) (act s k).answer ∷ t) (act s k).site
      go (offer b) a = offer_known b a
      go (work c) a = work_site c a
      go (confirm j n) a = confirm_site j n a
      go (read c k) a = h
      go (look i) a = subst (λ (n : News). KnownSite (n ∷ t) s) (sym (look_tells i (s.class (class_of s i)))) h
      go (query m) a = λ c l. by_test (named m c)
          (λ y. rw y (query_all (OfRequest (Known t c)) (λ e p. p) (free_place s) s.confirmations tt (s.class c) (h c l)))
          (λ f. rw f (h c l))

-- after any history from fresh
pub known : (h : List Call) → KnownSite (news h) (after h)
unfolding after news
known [] = unfold fresh in (λ c l. tt)
known (k ∷ h) = call_known (news h) (after h) (after_sound h) (known h) k
