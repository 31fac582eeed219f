-- From a fresh site, a request is put back at most as often as there are requests of its class offered after it and confirmed before it, plus queries
-- that named its class and began while it waited. Behind a waiting request stand only requests offered after it: so what puts it back, when it is
-- the head, is one of those, or a query. Assumes nothing.
use Prim.Native.Nat.{ℕ, suc, ◌+◌, ◌<◌, ◌≤◌}
use native.Mathlib.Omega.{arith}
use mathlib.Core.Path.{◌≡◌, refl}
use mathlib.Core.Logic.{◌⊎◌, inl, inr}
use mathlib.Core.Bool.{Bool, true, false, cond}
use mathlib.Core.List.{List, [], ◌∷◌}
use lib.Dec.{eqb}
use borrow.Author.Tests.{eqb-true, eqb-false, eq-eqb, ne_eqb}
use Rattle.plain.specs.Record.{request_in}
use Rattle.plain.specs.Queue.{Item, booking, reading, id_of, is_executed, id_is, is_confirmed, has, entry_of}
use Rattle.plain.specs.Steps.{Class, Answer, begun, ending, work_step, offer_step}
use Rattle.plain.specs.Steps.{numbered, back_id, confirm_on, confirm_step}
use Rattle.plain.specs.Site.{Site, Call, offer, work, confirm, read, look, query, call, act, accepts, class_of, free_place, confirmed_at, entry_at}
use Rattle.plain.specs.Sound.{All, OfRequest}
use Rattle.plain.specs.History.{after, mask_of, head_back, back_by, count_back, put_backs}
use Rattle.plain.specs.Told.{News, came, confirmed, began, other, news_of, news, class_told, waits, came_after}
use Rattle.plain.specs.Told.{overtakes, overtakers, queries_met, most_backs}
use Rattle.plain.specs.Demands.{BackAtMost}
use Rattle.plain.proofs.Tests.{by_test, no, and_both}
use Rattle.plain.proofs.Queues.{all_first, all_requests, each_request, find_request}
use Rattle.plain.proofs.Sites.{class_found, confirm_accepted, named_below}
use Rattle.plain.proofs.Demand2.{after_sound}
use Rattle.plain.proofs.PutBacks.{Counted, none_zero, work_silent, look_shows, call_ends, counted_back}
use Rattle.plain.proofs.Ages.{AgedAt, Aged, aged, Quiet, work_quiet, confirm_tells}
use Rattle.plain.proofs.Told.{Known, known}

-- WHAT IS PUT BACK is overtaken. The waiting head of a queue waits by what was told
head_waits : (t : List News) (c i : ℕ) (q : List Item) → 0 < i → eqb i (head_back q) ≡ true → All (OfRequest (Known t c)) q
    → (class_told i t ≡ c) × (waits i t ≡ true)
head_waits t c i [] l y h = absurd (omega (arith, eqb-true i 0 y))
head_waits t c i (reading p b ∷ q) l y h = absurd (omega (arith, eqb-true i 0 y))
head_waits t c i (booking e ∷ q) l y h =
    by_test (is_confirmed (booking e))
    (λ u. absurd (omega (arith, eqb-true i 0 (rw u at y))))
    (λ f. rw (eqb-true i (id_of e) (rw f at y)) (h.0.0, h.0.1 f))

-- and so does what a confirmation is accepted for
confirmed_waits : (t : List News) (c j : ℕ) (q : List Item) → has j q ≡ true → confirmed_at (entry_of j q) ≡ false → All (OfRequest (Known t c)) q
    → (class_told j t ≡ c) × (waits j t ≡ true)
confirmed_waits t c j q b f h =
    let z = find_request j q b in
    let k = all_first (OfRequest (Known t c)) (id_is j) q (booking z.0) z.1 h in
    rw (← z.2) (k.0, k.1 (rw z.1 at f))

-- a confirmation counts i as put back only if i is the waiting head of its class, and the request confirmed is younger
abbrev Counts : (ℕ → ℕ → Bool) → Site → ℕ → ℕ → List Item → Answer → Type 0
Counts young s i j q a =
    ((n : ℕ) → count_back i s 0 a n ≡ n) ⊎ ((eqb i (head_back q) ≡ true) × (young i j ≡ true) × ((n : ℕ) → count_back i s 0 a n ≡ suc n))

confirm_counts : (young : ℕ → ℕ → Bool) (s : Site) (i j n : ℕ) (k : Class) → 0 < i → has j k.queue ≡ true → Aged young k.queue
    → Counts young s i j k.queue (confirm_step j n k).answer
unfolding confirm_step
confirm_counts young s i j n k l h g = go k.queue h g
  where
    zero_not : eqb i 0 ≡ false
    zero_not = ne_eqb i 0 (λ z. omega arith)

    younger : (x : Item) (rest : List Item) → has j rest ≡ true → AgedAt young x rest → eqb i (back_id x) ≡ true → young i j ≡ true
    younger (reading p b) rest h g t = absurd (omega (arith, eqb-true i 0 t))
    younger (booking e) rest h g t =
        by_test (is_confirmed (booking e))
        (λ u. absurd (omega (arith, eqb-true i 0 (rw u at t))))
        (λ f. let is : i ≡ id_of e = eqb-true i (id_of e) (rw f at t) in
        let z = find_request j rest h in
        rw (is, ← z.2) (all_first (OfRequest (λ y. young (id_of e) (id_of y) ≡ true)) (id_is j) rest (booking z.0) z.1 (g f)))

    go : (q : List Item) → has j q ≡ true → Aged young q → Counts young s i j q (confirm_on j n q k.committed k.working).answer
    go [] h g = no _ h refl
    go (x ∷ rest) h g =
        by_test (id_is j x)
        (λ y. by_test (is_executed x)
        (λ e. rw (y, e) (inl (committed_silent x y)))
        (λ e. rw (y, e) (inl (λ m. rw zero_not))))
        (λ y. rw y (by_test (eqb i (back_id x))
        (λ t. inr (t, younger x rest (rw y at h) g.0 t, (λ m. rw t)))
        (λ f. inl (λ m. rw f))))
      where
        committed_silent : (x : Item) → id_is j x ≡ true → (m : ℕ) → count_back i s 0 (ending (numbered n x) k.working) m ≡ m
        committed_silent (booking e) y m = refl
        committed_silent (reading p b) y m = no _ y refl

-- THE BOUND, one call more
module _ (h : List Call) (i : ℕ) (l : 0 < i) (b : put_backs i h ≤ overtakers i (news h) + queries_met i (news h)) where
  abbrev s : Site
  s = after h

  abbrev t : List News
  t = news h

  abbrev Bound : Call → Answer → Type 0
  Bound k a =
      count_back i s (mask_of k) a (put_backs i h) ≤ overtakers i (news_of (mask_of k) a ∷ t) + queries_met i (news_of (mask_of k) a ∷ t)

  -- nothing but an offer of i takes away from it
  grows : (n : News) → Quiet n → overtakers i t + queries_met i t ≤ overtakers i (n ∷ t) + queries_met i (n ∷ t)
  unfolding overtakers queries_met
  grows (came j c) z = absurd z
  grows (confirmed j) z = omega arith
  grows (began m) z = omega arith
  grows other z = omega arith

  confirm_bound : (j n : ℕ) → accepts s (confirm j n) ≡ true → Bound (confirm j n) (confirm_step j n (s.class (class_of s j))).answer
  unfolding overtakers queries_met
  confirm_bound j n a =
      rw (confirm_tells j n k) (go (confirm_counts (λ i j. came_after i j t) s i j n k l (class_found s j f) (aged h c f)))
    where
      c : ℕ
      c = class_of s j

      k : Class
      k = s.class c

      f : c < 16
      f = (confirm_accepted s j n a).known

      go : Counts (λ i j. came_after i j t) s i j k.queue (confirm_step j n k).answer
          → count_back i s 0 (confirm_step j n k).answer (put_backs i h) ≤ overtakers i t + cond (overtakes i j t) 1 0 + queries_met i t
      go (inl u) = omega (arith, u (put_backs i h))
      go (inr u) =
          let p = head_waits t c i k.queue l u.0 (known h c f) in
          let q = confirmed_waits t c j k.queue (class_found s j f) (confirm_accepted s j n a).waits (known h c f) in
          let o : overtakes i j t ≡ true = rw (q.1, p.1, q.0, p.0, eq-eqb c c refl) u.1 in
          rw o (omega (arith, u.2 (put_backs i h)))

  query_bound : (m : ℕ) → accepts s (query m) ≡ true → Bound (query m) (begun (free_place s))
  unfolding back_by overtakers queries_met
  query_bound m a =
      by_test (back_by s m i)
      (λ y. let g = and_both _ _ y in
      let c = named_below m (class_of s i) g.0 in
      let p = head_waits t (class_of s i) i (s.class (class_of s i)).queue l g.1 (known h (class_of s i) c) in
      rw (y, p.1, p.0, g.0) (omega arith))
      (λ f. rw f (omega arith))

  call_bound : (k : Call) → Bound k (call s k).answer
  unfolding call act offer_step overtakers queries_met
  call_bound k = by_test (accepts s k) (λ y. rw y (go k y)) (λ f. rw f (omega arith))
    where
      go : (k : Call) → accepts s k ≡ true → Bound k (act s k).answer
      go (offer r) a = by_test (eqb i (request_in r).id) (λ y. rw y (omega arith)) (λ f. rw f (omega arith))
      go (work c) a =
          rw (work_silent s 0 (s.class c) i (put_backs i h))
          (omega (arith, grows (news_of 0 (work_step (s.class c)).answer) (work_quiet (s.class c))))
      go (confirm j n) a = confirm_bound j n a
      go (read c x) a = omega arith
      go (look j) a = by_test (confirmed_at (entry_at s j)) (λ y. rw y (omega arith)) (λ f. rw f (omega arith))
      go (query m) a = query_bound m a

at_most : (h : List Call) (i : ℕ) → 0 < i → put_backs i h ≤ most_backs i h
unfolding put_backs news most_backs overtakers queries_met
at_most [] i l = omega arith
at_most (k ∷ h) i l = call_bound h i l (at_most h i l) k

-- THE PROMISE, of the count by which each request was put back; no id is 0, so that it may be 0 there
backs : List Call → ℕ → ℕ
backs h i = cond (eqb i 0) 0 (put_backs i h)

few : (h : List Call) (i : ℕ) → backs h i ≤ most_backs i h
unfolding backs
few h i = by_test (eqb i 0) (λ t. rw t (omega arith)) (λ f. let ne = eqb-false i 0 f in rw f (at_most h i (omega arith)))

counts : (h : List Call) → Counted (backs h) (after h)
unfolding backs
counts h c l =
    all_requests (λ e. e.backs ≡ put_backs (id_of e) h) (λ e. eqb (id_of e) 0 ≡ false)
    (λ e. e.backs ≡ cond (eqb (id_of e) 0) 0 (put_backs (id_of e) h)) (λ e p z. rw z p)
    ((after h).class c).queue ((counted_back h).of_queued c l) (none_zero c ((after h).class c).queue ((after_sound h).each c l).belong)

pub back_at_most : (h : List Call) → BackAtMost h
back_at_most h = record {
  of_queued = λ c l. each_request (OfRequest (λ e. e.backs ≡ backs h (id_of e))) (λ e. e.backs ≤ most_backs (id_of e) h)
      (λ e p. omega (arith, p, few h (id_of e))) ((after h).class c).queue (counts h c l);
  of_looked = λ i b sh. omega (arith, look_shows (backs h) (after h) (counts h) i b sh, few h i);
  of_committed = λ k i n d j b e. omega (arith, call_ends (backs h) i n d j b (after h) (counts h) k e, few h i);
}
