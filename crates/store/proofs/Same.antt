-- On plain sites that are the same every call and every history does the same: no class past the 16 is looked at. Assumes nothing.
use Prim.Native.Nat.{ℕ, ◌<◌}
use mathlib.Core.Path.{◌≡◌, refl, ap}
use native.Mathlib.Omega.{arith}
use mathlib.Core.Bool.{true, not}
use mathlib.Core.Option.{Option, none, some}
use mathlib.Core.List.{List, [], ◌∷◌}
use lib.Dec.{ltb, leb, eqb}
use lib.ListN.{length}
use borrow.Author.Tests.{leb-false, ltb-true}
use Rattle.plain.specs.Record.{request_in}
use Rattle.plain.specs.Queue.{slot_is, place_is, asked, has}
use Rattle.plain.specs.Steps.{Class, Did, work_step, confirm_step}
use Rattle.plain.specs.Site.{Site, Call, Outcome, offer, work, confirm, read, look, query, call, act, accepts, refusal, in_class, commits_by}
use Rattle.plain.specs.Site.{class_of, is_free, slot_free, number_queued, is_kept, first_recent, recent_count, is_open, free_place}
use Rattle.plain.specs.History.{after_from, works_from}
use Rattle.plain.proofs.Tests.{by_test}
use Rattle.plain.proofs.Sums.{sum_same}
use Rattle.plain.proofs.Locality.{lowest_same}
use Rattle.plain.proofs.Sites.{work_accepted, offer_accepted, confirm_accepted, read_accepted, look_accepted}
use Rattle.store.proofs.Promise.{same_standing}
use Rattle.store.proofs.Work.{same_in}
use Rattle.store.specs.Meaning.{Same}

-- two outcomes have the same answer and leave the same site
abbrev Agree : Outcome → Outcome → Type 0
Agree x y = (x.answer ≡ y.answer) × Same x.site y.site

module _ (a b : Site) (e : Same a b) where
  -- an id's class, the lowest free slot, and how many requests are queued
  same_class : (i : ℕ) → class_of a i ≡ class_of b i
  unfolding class_of
  same_class i =
      lowest_same (λ c. has i (a.class c).queue) (λ c. has i (b.class c).queue) 0 16
      (λ c l m. ap (λ (k : Class). has i k.queue) (e.class c m))

  same_free : slot_free a ≡ slot_free b
  unfolding slot_free is_free
  same_free = lowest_same (is_free a) (is_free b) 0 128 (λ i l m. rw (same_standing a b e (slot_is i)))

  same_queued : number_queued a ≡ number_queued b
  unfolding number_queued
  same_queued =
      sum_same (λ c. length (asked (a.class c).queue)) (λ c. length (asked (b.class c).queue)) 16
      (λ c l. ap (λ (k : Class). length (asked k.queue)) (e.class c l))

  same_kept : (i : ℕ) → is_kept a i ≡ is_kept b i
  unfolding is_kept
  same_kept i =
      rw (
        ← e.confirmations,
        lowest_same (λ n. eqb (a.kept n) i) (λ n. eqb (b.kept n) i) (first_recent a.confirmations) (recent_count a.confirmations)
            (λ n l m. rw (e.kept n (record { given = omega arith; within = omega arith; last = omega arith }))),
      )

  -- the lowest free place of queries
  same_place : free_place a ≡ free_place b
  unfolding free_place is_open
  same_place = lowest_same (λ p. not (is_open a p)) (λ p. not (is_open b p)) 1 8 (λ p l m. rw (same_standing a b e (place_is p)))

  -- the class of an id that is queued
  same_at : (i : ℕ) → class_of b i < 16 → a.class (class_of a i) ≡ b.class (class_of b i)
  same_at i l = rw (same_class i) (e.class (class_of b i) l)

  -- REFUSALS
  pub same_refusal : (k : Call) → refusal a k ≡ refusal b k
  unfolding refusal
  same_refusal (offer x) = rw (same_class (request_in x).id, same_kept (request_in x).id, same_queued)
  same_refusal (work c) = by_test (leb 16 c) (λ t. rw t) (λ f. rw (f, e.class c (leb-false 16 c f)))
  same_refusal (confirm i n) =
      by_test (ltb (class_of b i) 16)
      (λ t. rw (same_at i (ltb-true _ 16 t), same_class i, e.confirmations))
      (λ f. rw (same_class i, f, e.confirmations))
  same_refusal (read c k) = refl
  same_refusal (look i) = rw (same_class i)
  same_refusal (query m) = rw (same_place, e.queries)

  -- WHAT AN ACCEPTED CALL DOES. A step in one class that is the same
  step_agrees : (c : ℕ) (new : Option ℕ) (d f : Did) → d ≡ f → Agree (in_class a c new d) (in_class b c new f)
  step_agrees c new d f p = (
    ap (λ (x : Did). x.answer) p,
    same_in a b c new d f (λ k l n. e.class k l) e.confirmations e.commits e.queries e.kept (ap (λ (x : Did). x.class) p)
        (ap (λ (x : Did). commits_by x.answer) p),
  )

  act_agrees : (k : Call) → accepts b k ≡ true → Agree (act a k) (act b k)
  unfolding act
  act_agrees (offer x) t =
      let r = request_in x in
      step_agrees r.class none _ _ (rw (same_free, e.class r.class (offer_accepted b x t).class))
  act_agrees (work c) t = step_agrees c none _ _ (ap work_step (e.class c (work_accepted b c t).0))
  act_agrees (confirm i n) t =
      rw (same_class i) (step_agrees (class_of b i) (some i) _ _ (ap (confirm_step i n) (e.class (class_of b i) (confirm_accepted b i n t).known)))
  act_agrees (read c k) t = (rw (e.class c (read_accepted b c k t)), e)
  act_agrees (look i) t = (rw (same_at i (look_accepted b i t)), e)
  act_agrees (query m) t = (
    rw same_place,
    record {
      class = λ c l. rw (same_place, e.confirmations, e.class c l);
      confirmations = e.confirmations;
      commits = e.commits;
      queries = rw e.queries;
      kept = e.kept;
    },
  )

  -- EVERY CALL
  call_agrees : (k : Call) → Agree (call a k) (call b k)
  unfolding call
  call_agrees k =
      by_test (accepts b k) (λ t. rw (same_refusal k, t) (act_agrees k t)) (λ f. rw (same_refusal k, f) (refl, e))

  pub same_answer : (k : Call) → (call a k).answer ≡ (call b k).answer
  same_answer k = (call_agrees k).0

  pub same_call : (k : Call) → Same (call a k).site (call b k).site
  same_call k = (call_agrees k).1

-- HISTORIES
pub same_after : (a b : Site) → Same a b → (h : List Call) → Same (after_from a h) (after_from b h)
same_after a b e [] = e
same_after a b e (k ∷ h) = same_call (after_from a h) (after_from b h) (same_after a b e h) k

pub same_works : (a b : Site) → Same a b → (c : ℕ) (h : List Call) → works_from a c h ≡ works_from b c h
unfolding works_from
same_works a b e c [] = refl
same_works a b e c (k ∷ h) =
    rw (same_works a b e c h, same_refusal (after_from a h) (after_from b h) (same_after a b e h) k)
