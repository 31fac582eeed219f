-- The logs of a history from fresh: confirmed numbers are 1, 2, 3, ..; and the requests accepted so far are the commits plus the requests queued.
-- Assumes nothing.
use Prim.Native.Nat.{ℕ, suc, ◌+◌, ◌<◌}
use native.Mathlib.Omega.{arith}
use mathlib.Core.Path.{◌≡◌, refl, sym, ap, ◌∙◌}
use mathlib.Core.Bool.{Bool, true, false, cond}
use mathlib.Core.Option.{none, some}
use mathlib.Core.List.{List, [], ◌∷◌, ◌++◌}
use lib.ListN.{length, length-append}
use Rattle.plain.specs.Ops.{Request}
use Rattle.plain.specs.Record.{request_in}
use Rattle.plain.specs.Queue.{Item, booking, reading, asks, count}
use Rattle.plain.specs.Steps.{Did, new_entry, numbered, work_step, offer_step, confirm_step}
use Rattle.plain.specs.Site.{Site, Call, offer, work, confirm, read, look, query, fresh, sum, standing, call, act, accepts}
use Rattle.plain.specs.Site.{class_of, in_class, entry_at, confirmed_at, commit_of, slot_free}
use Rattle.plain.specs.Sound.{SoundSite}
use Rattle.plain.specs.History.{after, offered_by, confirmed_by, committed_by, offers, confirmations, commits}
use Rattle.plain.specs.Demands.{Counted}
use Rattle.plain.proofs.Tests.{by_test}
use Rattle.plain.proofs.Items.{Lasting}
use Rattle.plain.proofs.Queues.{one_same, find_request}
use Rattle.plain.proofs.Steps.{nothing, that, Works, unconcerned, one_done, last_done}
use Rattle.plain.proofs.Confirming.{Confirms, at_once, later}
use Rattle.plain.proofs.Sites.{class_found, work_accepted, offer_accepted, Confirmable, confirm_accepted}
use Rattle.plain.proofs.Accepted.{turns, work_both, offer_both, confirm_both, query_standing}
use Rattle.plain.proofs.Moves.{nothing_committed, found, ended_is}
use Rattle.plain.proofs.Demand2.{after_sound}

-- NUMBERS
counted_append : (m : ℕ) (p q : List (ℕ × Request)) → Counted m p → Counted (m + length p) q → Counted m (p ++ q)
counted_append m [] q h k = let e : m + 0 ≡ m = omega arith in rw e at k
counted_append m (x ∷ p) q h k =
    let e : m + suc (length p) ≡ suc m + length p = omega arith in
    (h.0, counted_append (suc m) p q h.1 (rw e at k))

-- what a call confirms has the next number, and is counted
confirmed_next : (s : Site) (k : Call)
    → Counted s.confirmations (confirmed_by s k) × ((call s k).site.confirmations ≡ s.confirmations + length (confirmed_by s k))
unfolding confirmed_by call act
confirmed_next s (offer b) = (tt, by_test (accepts s (offer b)) (λ t. rw t) (λ f. rw f (omega arith)))
confirmed_next s (work c) = (tt, by_test (accepts s (work c)) (λ t. rw t) (λ f. rw f (omega arith)))
confirmed_next s (read c k) = (tt, by_test (accepts s (read c k)) (λ t. rw t (omega arith)) (λ f. rw f (omega arith)))
confirmed_next s (look i) = (tt, by_test (accepts s (look i)) (λ t. rw t (omega arith)) (λ f. rw f (omega arith)))
confirmed_next s (query m) = (tt, by_test (accepts s (query m)) (λ t. rw t (omega arith)) (λ f. rw f (omega arith)))
confirmed_next s (confirm i n) =
    by_test (accepts s (confirm i n))
    (λ t. let f : Confirmable s i n = confirm_accepted s i n t in
    let x = find_request i (s.class (class_of s i)).queue (class_found s i f.known) in
    rw (t, x.1) ((omega (arith, f.next), tt), refl))
    (λ f. rw f (tt, omega arith))

-- numbers confirmed are 1, 2, 3, .. and the count of confirmations is how many there are
pub counted : (h : List Call) → Counted 0 (confirmations h) × ((after h).confirmations ≡ length (confirmations h))
unfolding after confirmations
counted [] = unfold fresh in (tt, refl)
counted (k ∷ h) =
    let r = counted h in
    let n = confirmed_next (after h) k in
    let z : 0 + length (confirmations h) ≡ length (confirmations h) = omega arith in (
      counted_append 0 (confirmations h) (confirmed_by (after h) k) r.0 (rw z (rw r.1 at n.0)),
      n.1 ∙ omega (arith, r.1, length-append (confirmations h) (confirmed_by (after h) k)),
    )

-- ACCEPTED, by any test of requests
module _ (f : Request → Bool) where
  -- the same test of queued requests
  abbrev of_item : Item → Bool
  of_item (booking e) = f e.request
  of_item (reading p b) = false

  lasts : Lasting of_item
  lasts = record { work = λ e t. refl; back = λ e. refl }

  same_request : (n : ℕ) (x : Item) → of_item (numbered n x) ≡ of_item x
  same_request n (booking e) = refl
  same_request n (reading p b) = refl

  count_asks : (x : Item) → count f (asks x) ≡ cond (of_item x) 1 0
  count_asks (booking e) = omega arith
  count_asks (reading p b) = refl

  count_two : (p q : List Request) → count f (p ++ q) ≡ count f p + count f q
  count_two [] q = omega arith
  count_two (x ∷ p) q = let r = count_two p q in omega arith

  module _ (s : Site) (w : SoundSite s) where
    -- what one call brings is what it takes away and what it leaves more
    abbrev Balanced : Call → Type 0
    Balanced k = count f (offered_by s k) + standing of_item s ≡ count f (committed_by s (call s k).answer) + standing of_item (call s k).site

    offer_balanced : (b : List ℕ) → accepts s (offer b) ≡ true → Balanced (offer b)
    unfolding call act offered_by committed_by offer_step
    offer_balanced b a =
        let d = offer_step (request_in b) (slot_free s) (s.class (request_in b).class) in
        let t = turns s (request_in b).class none d nothing (that (booking (new_entry (request_in b) (slot_free s)))) (offer_accepted s b a).class
        (offer_both s w b a).turnover of_item lasts in
        rw a (omega (arith, t))

    work_balanced : (c : ℕ) → accepts s (work c) ≡ true → Balanced (work c)
    unfolding call act offered_by
    work_balanced c a = rw a (go (work_both s w c a).1)
      where
        d : Did
        d = work_step (s.class c)

        l : c < 16
        l = (work_accepted s c a).0

        go : Works (s.class c) d → 0 + standing of_item s ≡ count f (committed_by s d.answer) + standing of_item (in_class s c none d).site
        go (unconcerned p p' b z t) = rw (nothing_committed s d.answer z.0) (omega (arith, turns s c none d nothing nothing l t of_item lasts))
        go (one_done x y rest p p' al m b z t) =
            rw (nothing_committed s d.answer z.0) (omega (arith, turns s c none d nothing nothing l t of_item lasts))
        go (last_done x y rest p p' al en m b z t) =
            rw (ended_is s w c x y d.answer d.class.committed l (en, al, z)).0 (omega (arith, count_asks x, turns s c none d (that x) nothing l t of_item lasts))

    confirm_balanced : (i n : ℕ) → accepts s (confirm i n) ≡ true → Balanced (confirm i n)
    unfolding call act offered_by committed_by
    confirm_balanced i n a = rw a (go (confirm_both s w i n a).1)
      where
        c : ℕ
        c = class_of s i

        d : Did
        d = confirm_step i n (s.class c)

        l : c < 16
        l = (confirm_accepted s i n a).known

        go : Confirms i n (s.class c) d → 0 + standing of_item s ≡ count f (committed_by s d.answer) + standing of_item (in_class s c (some i) d).site
        go (at_once x b sl bk en p p' r z t) =
            let k : committed_by s d.answer ≡ asks x = rw (z, found s w c i x l en) in
            rw k (omega (arith, count_asks x, turns s c (some i) d (that x) nothing l t of_item lasts))
        go (later x y back en m e p b z t) =
            rw (nothing_committed s d.answer (ap commit_of z))
            (omega (arith, turns s c (some i) d (that x) (that y) l t of_item lasts, one_same of_item y x (rw e (same_request n x))))

    balanced : (k : Call) → Balanced k
    balanced k = by_test (accepts s k) (λ t. go k t) (λ g. refused k g)
      where
        go : (k : Call) → accepts s k ≡ true → Balanced k
        go (offer b) a = offer_balanced b a
        go (work c) a = work_balanced c a
        go (confirm i n) a = confirm_balanced i n a
        go (read c k) a = unfold call act offered_by committed_by in (rw a)
        go (query m) a = unfold call act offered_by committed_by in (rw a (ap (λ (x : ℕ). 0 + x) (sym (query_standing s w m a of_item lasts refl))))
        go (look i) a = unfold call act offered_by committed_by in (rw a (by_test (confirmed_at (entry_at s i)) (λ t. rw t) (λ g. rw g)))

        refused : (k : Call) → accepts s k ≡ false → Balanced k
        refused (offer b) g = unfold call offered_by committed_by in (rw g)
        refused (work c) g = unfold call offered_by committed_by in (rw g)
        refused (confirm i n) g = unfold call offered_by committed_by in (rw g)
        refused (read c k) g = unfold call offered_by committed_by in (rw g)
        refused (look i) g = unfold call offered_by committed_by in (rw g)
        refused (query m) g = unfold call offered_by committed_by in (rw g)

  -- the requests accepted so far are the commits plus the requests queued
  pub accepted : (h : List Call) → count f (offers h) ≡ count f (commits h) + standing of_item (after h)
  unfolding after offers commits
  accepted [] = unfold fresh standing sum in refl
  accepted (k ∷ h) =
      let r = accepted h in
      let b = balanced (after h) (after_sound h) k in
      count_two (offers h) (offered_by (after h) k)
      ∙ omega (arith, count_two (commits h) (committed_by (after h) (call (after h) k).answer))
