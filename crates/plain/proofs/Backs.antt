-- What each step does to the counts of times put back: one more for a head that is put back and nothing else, so that no count comes to be above
-- the count of confirmations and queries, and none can wrap. Assumes nothing.
use Prim.Native.Nat.{ℕ, suc, ◌+◌, ◌<◌, ◌≤◌}
use native.Mathlib.Omega.{arith}
use mathlib.Core.Path.{◌≡◌, refl}
use mathlib.Core.Bool.{true}
use mathlib.Core.Option.{Option, none, some}
use mathlib.Core.List.{List, [], ◌∷◌}
use lib.Dec.{eqb}
use Rattle.plain.specs.Sizes.{word, wide_word}
use Rattle.plain.specs.Ops.{Ran}
use Rattle.plain.specs.Record.{request_in}
use Rattle.plain.specs.Queue.{Entry, Item, booking, reading, is_executed, id_is, is_confirmed, backs_of, entry_of, without}
use Rattle.plain.specs.Steps.{Class, Did, new_entry, tried, advanced, work_on, work_step, offer_step}
use Rattle.plain.specs.Steps.{numbered, put_back, backed, moved, confirm_on, confirm_step, query_on, query_step}
use Rattle.plain.specs.Site.{Site, Call, offer, work, confirm, read, look, query, call, act, accepts, class_of, slot_free, free_place, named, in_class, given}
use Rattle.plain.specs.Sound.{All, AtMost, SoundSite}
use Rattle.plain.proofs.Tests.{by_test}
use Rattle.plain.proofs.Queues.{all_append, all_drop, all_before, all_first, all_map}
use Rattle.plain.proofs.Confirming.{moved_is}
use Rattle.plain.proofs.Sites.{work_accepted, offer_accepted, confirm_accepted}

-- WHAT LASTS of every one of a queue, whatever it has done and under whatever number
module _ (P : Item → Type 0) where
  pub work_all : ((e : Entry) (t : Ran) → P (booking e) → P (booking (advanced e t))) → (k : Class) → All P k.queue → All P (work_step k).class.queue
  unfolding work_step
  work_all f k h = go k.queue h
    where
      go : (q : List Item) → All P q → All P (work_on q k.committed k.working).class.queue
      go [] h = tt
      go (reading p b ∷ rest) h = h.1
      go (booking e ∷ rest) h =
          let p = f e (tried e k.working) h.0 in
          by_test (is_executed (booking (advanced e (tried e k.working))))
          (λ x. by_test (is_confirmed (booking e)) (λ t. rw (x, t) h.1) (λ g. rw (x, g) (p, h.1)))
          (λ x. rw x (p, h.1))

  pub moved_all : (i n : ℕ) → ((e : Entry) → P (booking e) → P (numbered n (booking e))) → (q : List Item) → All P q → All P (moved i n q)
  moved_all i n f q h = go (entry_of i q) refl
    where
      item : (x : Item) → P x → P (numbered n x)
      item (booking e) p = f e p
      item (reading k b) p = p

      go : (o : Option Item) → entry_of i q ≡ o → All P (moved i n q)
      go none en = rw (en, moved) h
      go (some e) en =
          rw (moved_is i n q e en)
          (all_before P (numbered n e) (without i q) (item e (all_first P (id_is i) q e en h)) (all_drop P (id_is i) q h))

  pub query_all : ((e : Entry) → P (booking e) → P (put_back (booking e))) → (p b : ℕ) → P (reading p b) → (k : Class) → All P k.queue
      → All P (query_step p b k).queue
  unfolding query_step
  query_all f p b y k h = go k.queue h
    where
      item : (x : Item) → P x → P (put_back x)
      item (booking e) p = f e p
      item (reading n b) p = p

      go : (q : List Item) → All P q → All P (query_on (reading p b) q k.committed k.working).queue
      go [] h = (y, tt)
      go (x ∷ rest) h =
          all_before P (reading p b) (backed x ∷ rest) y (by_test (is_confirmed x) (λ t. rw t h.0) (λ g. rw g (item x h.0)), h.1)

-- THE BOUND
more : (top top' : ℕ) → top ≤ top' → (q : List Item) → All (AtMost top) q → All (AtMost top') q
more top top' l q h = all_map (AtMost top) (AtMost top') (λ e b. omega arith) q h

back_most : (top : ℕ) (x : Item) → AtMost top x → AtMost (top + 1) (put_back x)
back_most top (booking e) h = omega arith
back_most top (reading p b) h = omega arith

backed_most : (top : ℕ) (x : Item) → AtMost top x → AtMost (top + 1) (backed x)
backed_most top x h = by_test (is_confirmed x) (λ t. rw t (omega arith)) (λ f. rw f (back_most top x h))

-- a confirmation brings one more at most
confirm_most : (top i n : ℕ) (k : Class) → All (AtMost top) k.queue → All (AtMost (top + 1)) (confirm_step i n k).class.queue
unfolding confirm_step
confirm_most top i n k h = go k.queue h
  where
    go : (q : List Item) → All (AtMost top) q → All (AtMost (top + 1)) (confirm_on i n q k.committed k.working).class.queue
    go [] h = tt
    go (x ∷ rest) h =
        let m = more top (top + 1) (omega arith) (x ∷ rest) h in
        by_test (id_is i x)
        (λ y. by_test (is_executed x)
        (λ e. rw (y, e) m.1)
        (λ e. rw (y, e) (moved_all (AtMost (top + 1)) i n (λ e b. b) (x ∷ rest) m)))
        (λ y. rw y (moved_all (AtMost (top + 1)) i n (λ e b. b) (backed x ∷ rest) (head, m.1)))
      where
        head : AtMost (top + 1) (backed x)
        head = backed_most top x h.0

-- and so does a query
query_most : (top p b : ℕ) (k : Class) → All (AtMost top) k.queue → All (AtMost (top + 1)) (query_step p b k).queue
unfolding query_step
query_most top p b k h = go k.queue h
  where
    go : (q : List Item) → All (AtMost top) q → All (AtMost (top + 1)) (query_on (reading p b) q k.committed k.working).queue
    go [] h = (omega arith, tt)
    go (x ∷ rest) h =
        all_before (AtMost (top + 1)) (reading p b) (backed x ∷ rest) (omega arith) (backed_most top x h.0, more top (top + 1) (omega arith) rest h.1)

-- every call keeps the bound
module _ (s : Site) (w : SoundSite s) where
  abbrev top : ℕ
  top = s.confirmations + s.queries

  abbrev Bounded : Site → Type 0
  Bounded s = (c : ℕ) → c < 16 → All (AtMost (s.confirmations + s.queries)) (s.class c).queue

  step_backs : (c : ℕ) (new : Option ℕ) (d : Did) → All (AtMost (s.confirmations + s.queries + given new)) d.class.queue
      → Bounded (in_class s c new d).site
  step_backs c new d h e l =
      by_test (eqb e c)
      (λ t. rw t (more _ (s.confirmations + given new + s.queries) (omega arith) d.class.queue h))
      (λ f. rw f (more _ (s.confirmations + given new + s.queries) (omega arith) (s.class e).queue (w.backs e l)))

  pub call_backs : (k : Call) → Bounded (call s k).site
  unfolding call act offer_step
  call_backs k = by_test (accepts s k) (λ t. rw t (go k t)) (λ f. rw f w.backs)
    where
      go : (k : Call) → accepts s k ≡ true → Bounded (act s k).site
      go (offer b) a =
          let c = (request_in b).class in
          let x = booking (new_entry (request_in b) (slot_free s)) in
          step_backs c none (offer_step (request_in b) (slot_free s) (s.class c))
          (all_append (AtMost (top + 0)) (s.class c).queue x (omega arith)
          (more top (top + 0) (omega arith) (s.class c).queue (w.backs c (offer_accepted s b a).class)))
      go (work c) a =
          step_backs c none (work_step (s.class c))
          (more top (top + 0) (omega arith) (work_step (s.class c)).class.queue
          (work_all (AtMost top) (λ e t b. b) (s.class c) (w.backs c (work_accepted s c a).0)))
      go (confirm i n) a =
          let c = class_of s i in
          step_backs c (some i) (confirm_step i n (s.class c))
          (confirm_most top i n (s.class c) (w.backs c (confirm_accepted s i n a).known))
      go (read c k) a = w.backs
      go (look i) a = w.backs
      go (query m) a = λ e l. by_test (named m e)
          (λ t. rw t (more _ (s.confirmations + (s.queries + 1)) (omega arith) (query_step (free_place s) s.confirmations (s.class e)).queue
          (query_most top (free_place s) s.confirmations (s.class e) (w.backs e l))))
          (λ f. rw f (more _ (s.confirmations + (s.queries + 1)) (omega arith) (s.class e).queue (w.backs e l)))

  -- NO COUNT WRAPS: both counts, above whose sum no count of times put back is, have 32 bits; so 64 bits hold one more
  pub no_wrap : s.confirmations < word → s.queries < word → (c : ℕ) → c < 16 → All (λ x. suc (backs_of x) < wide_word) (s.class c).queue
  no_wrap a b c l = all_map (AtMost top) (λ x. suc (backs_of x) < wide_word) (λ x h. omega arith) (s.class c).queue (w.backs c l)
