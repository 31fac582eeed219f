-- What an offer and a work call do in their class: it stays sound, and this happens to its confirmed part, its committed cells and its counts. Assumes nothing.
use Prim.Native.Nat.{ℕ, suc, ◌+◌, ◌<◌, ◌≤◌}
use native.Mathlib.Omega.{arith}
use mathlib.Core.Path.{◌≡◌, refl, sym, ap, ◌∙◌, subst}
use mathlib.Core.Logic.{◌⊎◌, inl, inr}
use mathlib.Core.Bool.{Bool, true, false}
use mathlib.Core.Option.{Option, none, some}
use mathlib.Core.List.{List, [], ◌∷◌, ◌++◌}
use lib.ListN.{length}
use lib.Seq.{take_all}
use borrow.Author.Tests.{leb-true, leb-false, ltb-false}
use Rattle.plain.specs.Ops.{Op, Request, Ran, carry_all, mark_of, leaves, run_request, run_all}
use Rattle.plain.specs.Queue.{Entry, Item, booking, reading, ops_of, is_executed, is_confirmed, left, asks, count}
use Rattle.plain.specs.Queue.{first_of, confirmed_part}
use Rattle.plain.specs.Steps.{Class, class_with, Did, ending, new_entry, tried, advanced}
use Rattle.plain.specs.Steps.{Answer, refused, queued, stepped, executed, committed, waiting, value, to_do, unconfirmed, begun, entry}
use Rattle.plain.specs.Steps.{worked, work_on, work_step, idle, offer_step}
use Rattle.plain.specs.Site.{commit_of}
use Rattle.plain.specs.Sound.{Booked, Belongs, Untouched, Head, AtHead, Working, SoundClass}
use Rattle.plain.proofs.Tests.{by_test}
use Rattle.plain.proofs.Items.{Lasting, Alike, alike_itself}
use Rattle.plain.proofs.Items.{tried_is, at_head}
use Rattle.plain.proofs.Queues.{all_append, one, count_append}
use Rattle.plain.proofs.Queues.{order_append, order_tail, order_raise}
use Rattle.plain.proofs.Queues.{waits_all, none_confirmed, part_append, next_head}

pub raise : (c top top' : ℕ) (k : Class) → top ≤ top' → SoundClass c top k → SoundClass c top' k
raise c top top' k l s = record { belong = s.belong; order = order_raise 0 top top' k.queue l s.order; working = s.working }

-- the head has ended, leaving the cells v
pub ended : (c top : ℕ) (x : Item) (rest : List Item) (base w v : List ℕ) → SoundClass c top (class_with (x ∷ rest) base w)
    → SoundClass c top (class_with rest v v)
ended c top x rest base w v s = record {
  belong = s.belong.1;
  order = order_tail 0 top x rest s.order;
  working = next_head c rest v s.working.1 s.belong.1;
}

-- COUNTS: by any lasting test, what is queued after a step, with what left, is what was queued before, with what came
abbrev pub Turnover : Class → Class → ((Item → Bool) → ℕ) → ((Item → Bool) → ℕ) → Type 0
Turnover k k' gone come = (f : Item → Bool) → Lasting f → count f k'.queue + gone f ≡ count f k.queue + come f

abbrev pub nothing : (Item → Bool) → ℕ
nothing f = 0

abbrev pub that : Item → (Item → Bool) → ℕ
that x f = one f x

-- AN ANSWER that says no end: no commit, and no reading of an entry
abbrev pub read_of : Answer → Option ℕ
read_of (refused n) = none
read_of (queued i c p s) = none
read_of (stepped i d) = none
read_of (executed i) = none
read_of (committed i n d s b) = none
read_of (waiting i w b) = none
read_of (value x) = none
read_of (to_do w b) = none
read_of (unconfirmed b) = none
read_of (begun p) = none
read_of (entry p l) = some p

abbrev pub Silent : Answer → Type 0
Silent a = (commit_of a ≡ none) × (read_of a ≡ none)

-- WORK, on a class's confirmed part: nothing, one operation more of its first x, which is y then, or the end of its first
pub data Works (k : Class) (d : Did) : Type 0 where
  unconcerned : confirmed_part k.queue ≡ [] → confirmed_part d.class.queue ≡ [] → d.class.committed ≡ k.committed
      → Silent d.answer → Turnover k d.class nothing nothing → Works k d
  one_done : (x y : Item) (rest : List Item) → confirmed_part k.queue ≡ x ∷ rest → confirmed_part d.class.queue ≡ y ∷ rest
      → Alike x y → left x ≡ suc (left y) → d.class.committed ≡ k.committed → Silent d.answer
      → Turnover k d.class nothing nothing → Works k d
  last_done : (x y : Item) (rest : List Item) → confirmed_part k.queue ≡ x ∷ rest → confirmed_part d.class.queue ≡ rest
      → Alike x y → ((f : Item → Bool) → f x ≡ true → first_of f k.queue ≡ some x) → left x ≡ 1
      → d.class.committed ≡ run_all k.committed (asks x) → d.answer ≡ ending y d.class.committed
      → Turnover k d.class (that x) nothing → Works k d

-- the head with one operation more
module _ (c top : ℕ) (e : Entry) (rest : List Item) (base w : List ℕ) (s : SoundClass c top (class_with (booking e ∷ rest) base w))
    (l : e.done < length (ops_of e)) where
  abbrev e' : Entry
  e' = advanced e (tried e w)

  abbrev w' : List ℕ
  w' = leaves (tried e w) base

  head : (e.number ≡ 0) ⊎ (suc e.done < length (ops_of e)) → Head e' base w'
  head u = record {
    within = omega arith;
    unfinished = λ n. unfinished u n;
    mark = ap mark_of (tried_is e base w s.working.0 l);
    cells = ap (λ (m : Ran). leaves m base) (tried_is e base w s.working.0 l);
  }
    where
      unfinished : (e.number ≡ 0) ⊎ (suc e.done < length (ops_of e)) → 0 < e.number → suc e.done < length (ops_of e)
      unfinished (inl z) n = omega arith
      unfinished (inr h) n = h

  -- after the last operation the working cells are those of the whole request
  whole : length (ops_of e) ≤ suc e.done → w' ≡ run_request base e.request
  unfolding run_request
  whole h = ap (λ (m : Ran). leaves m base)
      (tried_is e base w s.working.0 l ∙ ap (λ (os : List Op). carry_all os base) (take_all (suc e.done) (ops_of e) h))

  stays : (e.number ≡ 0) ⊎ (suc e.done < length (ops_of e)) → SoundClass c top (class_with (booking e' ∷ rest) base w')
  stays u = record { belong = s.belong; order = s.order; working = (head u, s.working.1) }

  none_here : is_confirmed (booking e) ≡ false → confirmed_part rest ≡ []
  none_here f = none_confirmed rest (waits_all 0 top (booking e) rest s.order f)

  more : Alike (booking e) (booking e')
  more = record { tests = λ f h. h.work e (tried e w); asks_same = refl; line_same = refl; backs_same = refl }

  same : Turnover (class_with (booking e ∷ rest) base w) (class_with (booking e' ∷ rest) base w') nothing nothing
  same f h = rw (h.work e (tried e w))

  off : Turnover (class_with (booking e ∷ rest) base w) (class_with rest w' w') (that (booking e)) nothing
  off f h = omega arith

  both : SoundClass c top (worked e' rest base w').class × Works (class_with (booking e ∷ rest) base w) (worked e' rest base w')
  unfolding run_all
  both =
      by_test (is_executed (booking e'))
      (λ x. by_test (is_confirmed (booking e))
      (λ t. rw (x, t) (
        ended c top (booking e) rest base w w' s,
        last_done (booking e) (booking e') (confirmed_part rest) (rw t) refl more (λ f h. rw h) (omega (arith, leb-true)) (whole (leb-true _ _ x)) refl off,
      ))
      (λ f. rw (x, f)
      (stays (inl (omega (arith, ltb-false))), unconcerned (rw f (none_here f)) (rw f (none_here f)) refl (refl, refl) same)))
      (λ x. by_test (is_confirmed (booking e))
      (λ t. rw x
      (stays (inr (leb-false _ _ x)), one_done (booking e) (booking e') (confirmed_part rest) (rw t) (rw t) more (omega (arith, leb-false)) refl (refl, refl) same))
      (λ f. rw x
      (stays (inr (leb-false _ _ x)), unconcerned (rw f (none_here f)) (rw f (none_here f)) refl (refl, refl) same)))

pub work_step_lem : (c top : ℕ) (k : Class) → SoundClass c top k → idle k.queue ≡ false
    → SoundClass c top (work_step k).class × Works k (work_step k)
unfolding work_step
work_step_lem c top k s i = go k.queue s i
  where
    go : (q : List Item) → SoundClass c top (class_with q k.committed k.working) → idle q ≡ false
        → SoundClass c top (work_on q k.committed k.working).class
        × Works (class_with q k.committed k.working) (work_on q k.committed k.working)
    go [] s i = let z : ◌≡◌ {A = ℕ} 0 1 = cc in absurd (omega arith)
    go (booking e ∷ rest) s i = both c top e rest k.committed k.working s (leb-false _ _ i)
    go (reading p b ∷ rest) s i = (
      rw s.working.0 (ended c top (reading p b) rest k.committed k.working k.committed s),
      last_done (reading p b) (reading p b) (confirmed_part rest) refl refl (alike_itself (reading p b)) (λ f h. rw h) refl (unfold run_all in refl) refl
          (λ f h. omega arith),
    )

-- OFFER
pub record Offers (c top : ℕ) (r : Request) (slot : ℕ) (k : Class) (d : Did) : Type 0 where
  pub sound : SoundClass c top d.class
  pub part : confirmed_part d.class.queue ≡ confirmed_part k.queue
  pub turnover : Turnover k d.class nothing (that (booking (new_entry r slot)))

pub offer_step_lem : (c top : ℕ) (k : Class) (r : Request) (slot : ℕ) → SoundClass c top k → Booked c r slot → Offers c top r slot k (offer_step r slot k)
unfolding offer_step
offer_step_lem c top k r slot s b = record {
  sound = record {
    belong = all_append (Belongs c) k.queue x b s.belong;
    order = order_append 0 top k.queue x refl s.order;
    working = go k.queue s.working;
  };
  part = part_append k.queue x refl;
  turnover = λ f h. omega (arith, count_append f k.queue x);
}
  where
    x : Item
    x = booking (new_entry r slot)

    go : (q : List Item) → Working q k.committed k.working → Working (q ++ (x ∷ [])) k.committed k.working
    go [] w = (subst (λ (v : List ℕ). AtHead x k.committed v) (sym w) (at_head c x k.committed (refl, refl) b), tt)
    go (y ∷ q) w = (w.0, all_append Untouched q x (refl, refl) w.1)
