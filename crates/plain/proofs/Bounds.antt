-- On a sound site at most 128 requests are queued, and 8 entries of queries in each queue, so no queue is longer than 136, W is at most 904, and a
-- mark at most 7. Assumes nothing.
use Prim.Native.Nat.{ℕ, suc, ◌+◌, ◌*◌, ◌-◌, ◌<◌, ◌≤◌}
use native.Mathlib.Omega.{arith}
use mathlib.Core.Path.{◌≡◌, refl, sym, ap, ◌∙◌}
use mathlib.Core.Bool.{Bool, true, false, cond}
use mathlib.Core.List.{List, [], ◌∷◌}
use lib.Dec.{eqb}
use lib.ListN.{length, take}
use lib.Seq.{length-take-le}
use borrow.Author.Tests.{eqb-true, eqb-false, eq-eqb, ne_eqb, leb-false}
use Rattle.plain.specs.Sizes.{slot_count, query_count, most_queued, most_ops, most_w}
use Rattle.plain.specs.Ops.{Ran, carried, declined, carry_all, mark_of}
use Rattle.plain.specs.Queue.{Entry, Item, booking, reading, ops_of, is_executed, is_confirmed, id_is, slot_is, place_is, is_reading, count, asked, up_to, owed}
use Rattle.plain.specs.Steps.{Class, class_with, Answer, Did, committed, tried, advanced, work_on, work_step, idle}
use Rattle.plain.specs.Steps.{offer_step, confirm_on, confirm_step}
use Rattle.plain.specs.Site.{Site, Call, offer, work, confirm, read, look, query, call, act, accepts, sum, standing, number_queued, class_of}
use Rattle.plain.specs.Site.{confirmed_at, entry_at, commits_by}
use Rattle.plain.specs.Sound.{All, Placed, Belongs, SoundClass, SoundSite}
use Rattle.plain.specs.Demands.{w_of}
use Rattle.plain.proofs.Tests.{by_test, no}
use Rattle.plain.proofs.Items.{is_valid, Between, place_between, tried_is}
use Rattle.plain.proofs.Sums.{sum_add, sum_zero, sum_same, sum_one, sum_le, sum_const, sum_term}
use Rattle.plain.proofs.Queues.{asked_length}
use Rattle.plain.proofs.Confirming.{Confirms, at_once, later}
use Rattle.plain.proofs.Sites.{slots_queued, work_accepted, confirm_accepted}
use Rattle.plain.proofs.Accepted.{confirm_both}
use Rattle.plain.proofs.Kept.{call_sound}

pub few_queued : (s : Site) → SoundSite s → number_queued s ≤ slot_count
few_queued s w =
    omega (arith, slots_queued s w, sum_le (λ i. standing (slot_is i) s) (λ i. 1) 128 (λ i l. w.slots i), sum_const 1 128)

pub requests_few : (s : Site) → SoundSite s → (c : ℕ) → c < 16 → length (asked (s.class c).queue) ≤ slot_count
unfolding number_queued
requests_few s w c l = omega (arith, few_queued s w, sum_term (λ c. length (asked (s.class c).queue)) 16 c l)

-- a queue's entries of queries are at most 8: each has one of 8 places, and no place two
entries_of : (c : ℕ) (q : List Item) → All (Belongs c) q → sum (λ i. count (place_is (suc i)) q) 8 ≡ count is_reading q
entries_of c [] b = sum_zero 8
entries_of c (booking e ∷ q) b =
    sum_add (λ i. 0) (λ i. count (place_is (suc i)) q) 8 ∙ omega (arith, sum_zero 8, entries_of c q b.1)
entries_of c (reading p n ∷ q) b =
    sum_add (λ i. cond (eqb p (suc i)) 1 0) (λ i. count (place_is (suc i)) q) 8 ∙ omega (arith, one_place p b.0, entries_of c q b.1)
  where
    one_place : (p : ℕ) → Placed p → ◌≡◌ {A = ℕ} (sum (λ i. cond (eqb p (suc i)) 1 0) 8) 1
    one_place p h =
        sum_same (λ i. cond (eqb p (suc i)) 1 0) (λ i. cond (eqb (p - 1) i) 1 0) 8 (λ i l. same i) ∙ sum_one (p - 1) 8 (omega (arith, h.from_1, h.to_8))
      where
        same : (i : ℕ) → ◌≡◌ {A = ℕ} (cond (eqb p (suc i)) 1 0) (cond (eqb (p - 1) i) 1 0)
        same i =
            by_test (eqb (p - 1) i)
            (λ t. rw (t, eq-eqb p (suc i) (omega (arith, h.from_1, eqb-true (p - 1) i t))))
            (λ f. let ne = eqb-false (p - 1) i f in rw (f, ne_eqb p (suc i) (λ e. ne (omega (arith, h.from_1)))))

pub entries_few : (s : Site) → SoundSite s → (c : ℕ) → c < 16 → count is_reading (s.class c).queue ≤ query_count
entries_few s w c l =
    omega (
      arith,
      entries_of c (s.class c).queue (w.each c l).belong,
      sum_le (λ i. count (place_is (suc i)) (s.class c).queue) (λ i. 1) 8 (λ i m. w.entries c l (suc i)),
      sum_const 1 8,
    )

pub queue_short : (s : Site) → SoundSite s → (c : ℕ) → c < 16 → length (s.class c).queue ≤ most_queued
queue_short s w c l = omega (arith, requests_few s w c l, entries_few s w c l, asked_length (s.class c).queue)

-- each request of a queue has at most 7 operations to do, and each entry takes one work call
few_left : (c : ℕ) (q : List Item) (f : Item → Bool) → All (Belongs c) q → up_to f q ≤ 7 * length (asked q) + count is_reading q
few_left c [] f b = omega arith
few_left c (booking e ∷ q) f b =
    let v = is_valid e.request b.0.valid in
    let r = few_left c q f b.1 in
    by_test (f (booking e)) (λ t. rw t (omega arith)) (λ g. rw g (omega arith))
few_left c (reading p n ∷ q) f b =
    let r = few_left c q f b.1 in
    by_test (f (reading p n)) (λ t. rw t (omega arith)) (λ g. rw g (omega arith))

-- so does the queue up to any of it: W, and how far an entry is from its reading
pub up_to_bounded : (s : Site) → SoundSite s → (c : ℕ) → c < 16 → (f : Item → Bool) → up_to f (s.class c).queue ≤ most_w
up_to_bounded s w c l f =
    omega (arith, requests_few s w c l, entries_few s w c l, few_left c (s.class c).queue f (w.each c l).belong)

pub w_bounded : (s : Site) → SoundSite s → (c : ℕ) → c < 16 → (i : ℕ) → owed i (s.class c).queue ≤ most_w
w_bounded s w c l i = up_to_bounded s w c l (id_is i)

-- the W that a confirmation answers
pub confirm_bounded : (s : Site) → SoundSite s → (i n : ℕ) → w_of (call s (confirm i n)).answer ≤ most_w
unfolding call act
confirm_bounded s w i n =
    by_test (accepts s (confirm i n))
    (λ a. rw a (go a (confirm_both s w i n a).1 (rw a at (w_bounded (call s (confirm i n)).site (call_sound s (confirm i n) w) c (confirm_accepted s i n a).known i))))
    (λ f. rw f (omega arith))
  where
    c : ℕ
    c = class_of s i

    d : Did
    d = confirm_step i n (s.class c)

    go : accepts s (confirm i n) ≡ true → Confirms i n (s.class c) d → owed i ((act s (confirm i n)).site.class c).queue ≤ most_w → w_of d.answer ≤ most_w
    go a (at_once x b sl bk en p p' r z t) u = rw z (omega arith)
    go a (later x y back en m e p b z t) u = let v : owed i d.class.queue ≤ most_w = rw (eq-eqb c c refl) at u in rw z v

-- the mark that a commit answers
few_marked : (c : ℕ) (e : Entry) (base : List ℕ) (n : ℕ) → Belongs c (booking e) → n ≤ length (ops_of e) → mark_of (carry_all (take n (ops_of e)) base) ≤ most_ops
few_marked c e base n b l =
    let v = is_valid e.request b.valid in
    let t = length-take-le n (ops_of e) l in
    at_most (carry_all (take n (ops_of e)) base) (place_between 1 (suc most_ops) (take n (ops_of e)) base (omega (arith, v.few_ops)))
  where
    at_most : (r : Ran) → Between 1 (suc most_ops) r → mark_of r ≤ most_ops
    at_most (carried w) h = omega arith
    at_most (declined p) h = omega (arith, h.1)

work_marked : (c top : ℕ) (k : Class) → SoundClass c top k → idle k.queue ≡ false → (i n m j b : ℕ) → (work_step k).answer ≡ committed i n m j b → m ≤ most_ops
unfolding work_step
work_marked c top k s f i n m j b = go k.queue s f
  where
    go : (q : List Item) → SoundClass c top (class_with q k.committed k.working) → idle q ≡ false
        → (work_on q k.committed k.working).answer ≡ committed i n m j b → m ≤ most_ops
    go [] s f a = no _ refl f
    go (reading p x ∷ rest) s f a = let z : ◌≡◌ {A = ℕ} 0 1 = cc in absurd (omega arith)
    go (booking e ∷ rest) s f a =
        let l = leb-false _ _ f in
        let is = tried_is e k.committed k.working s.working.0 l in
        let few = few_marked c e k.committed (suc e.done) s.belong.0 (omega arith) in
        by_test (is_executed (booking (advanced e (tried e k.working))))
        (λ x. by_test (is_confirmed (booking e))
        (λ t. let z : mark_of (tried e k.working) ≡ m = cc (rw (x, t) at a) in rw (← z, is) few)
        (λ t. let z : ◌≡◌ {A = ℕ} 0 1 = cc (rw (x, t) at a) in absurd (omega arith)))
        (λ x. let z : ◌≡◌ {A = ℕ} 0 1 = cc (rw x at a) in absurd (omega arith))

confirm_marked : (c top i n : ℕ) (k : Class) → SoundClass c top k → (i' n' m j b : ℕ) → (confirm_step i n k).answer ≡ committed i' n' m j b → m ≤ most_ops
unfolding confirm_step
confirm_marked c top i n k s i' n' m j b = go k.queue s
  where
    go : (q : List Item) → SoundClass c top (class_with q k.committed k.working)
        → (confirm_on i n q k.committed k.working).answer ≡ committed i' n' m j b → m ≤ most_ops
    go [] s a = let z : ◌≡◌ {A = ℕ} 0 1 = cc in absurd (omega arith)
    go (reading p x ∷ rest) s a = let z : ◌≡◌ {A = ℕ} 0 1 = cc in absurd (omega arith)
    go (booking e ∷ rest) s a =
        let h = s.working.0 in
        let few = few_marked c e k.committed e.done s.belong.0 h.within in
        by_test (id_is i (booking e))
        (λ y. by_test (is_executed (booking e))
        (λ x. let z : e.mark ≡ m = cc (rw (y, x) at a) in rw (← z, h.mark) few)
        (λ x. let z : ◌≡◌ {A = ℕ} 0 1 = cc (rw (y, x) at a) in absurd (omega arith)))
        (λ y. let z : ◌≡◌ {A = ℕ} 0 1 = cc (rw y at a) in absurd (omega arith))

pub mark_bounded : (s : Site) → SoundSite s → (k : Call) (i n m j b : ℕ) → (call s k).answer ≡ committed i n m j b → m ≤ most_ops
unfolding call act offer_step
mark_bounded s w k i n m j b e =
    by_test (accepts s k)
    (λ a. go k a (rw a at e))
    (λ f. let z : ◌≡◌ {A = ℕ} 0 1 = cc (rw f at e) in absurd (omega arith))
  where
    none : {X : Type 0} (a : Answer) → commits_by a ≡ 0 → a ≡ committed i n m j b → X
    none a z e = let o : ◌≡◌ {A = ℕ} 0 1 = sym z ∙ ap commits_by e in absurd (omega arith)

    go : (k : Call) → accepts s k ≡ true → (act s k).answer ≡ committed i n m j b → m ≤ most_ops
    go (offer r) a e = none _ refl e
    go (work c) a e = let f = work_accepted s c a in work_marked c s.confirmations (s.class c) (w.each c f.0) f.1 i n m j b e
    go (confirm h x) a e =
        confirm_marked (class_of s h) s.confirmations h x (s.class (class_of s h)) (w.each (class_of s h) (confirm_accepted s h x a).known) i n m j b e
    go (read c x) a e = none _ refl e
    go (look h) a e = by_test (confirmed_at (entry_at s h)) (λ t. none _ refl (rw t at e)) (λ f. none _ refl (rw f at e))
    go (query r) a e = none _ refl e
