-- What an accepted call does in its class, and what is queued on the site after it. Assumes nothing.
use Prim.Native.Nat.{ℕ, ◌+◌, ◌<◌, ◌≤◌}
use native.Mathlib.Omega.{arith}
use mathlib.Core.Path.{◌≡◌, refl}
use mathlib.Core.Bool.{Bool, true, false, cond}
use mathlib.Core.Option.{Option}
use mathlib.Core.List.{List, [], ◌∷◌}
use lib.Dec.{eqb}
use Rattle.plain.specs.Record.{request_in}
use Rattle.plain.specs.Queue.{Item, booking, reading, id_is, slot_is, number_is, has_number, place_is, reading_is, is_confirmed, count}
use Rattle.plain.specs.Steps.{Did, work_step, offer_step, confirm_step, query_step}
use Rattle.plain.specs.Site.{Site, offer, work, confirm, query, standing, class_of, slot_free, free_place, named, accepts, in_class, begins}
use Rattle.plain.specs.Sound.{SoundClass, SoundSite}
use Rattle.plain.proofs.Tests.{by_test}
use Rattle.plain.proofs.Sums.{sum_same, sum_le}
use Rattle.plain.proofs.Items.{Lasting}
use Rattle.plain.proofs.Queues.{one}
use Rattle.plain.proofs.Steps.{Turnover, Works, work_step_lem, Offers, offer_step_lem}
use Rattle.plain.proofs.Confirming.{Confirms, confirm_step_lem, Joins, query_step_lem}
use Rattle.plain.proofs.Sites.{standing_change, class_found, room, work_accepted, offer_accepted, confirm_accepted, query_accepted}

-- the tests by which a sound site's requests differ last, and so do having a number and being an entry of a query
pub id_lasts : (i : ℕ) → Lasting (id_is i)
id_lasts i = record { work = λ e t. refl; back = λ e. refl }

pub slot_lasts : (i : ℕ) → Lasting (slot_is i)
slot_lasts i = record { work = λ e t. refl; back = λ e. refl }

pub number_lasts : (n : ℕ) → Lasting (number_is n)
number_lasts n = record { work = λ e t. refl; back = λ e. refl }

pub numbered_lasts : Lasting has_number
numbered_lasts = record { work = λ e t. refl; back = λ e. refl }

pub confirmed_lasts : Lasting is_confirmed
confirmed_lasts = record { work = λ e t. refl; back = λ e. refl }

pub place_lasts : (p : ℕ) → Lasting (place_is p)
place_lasts p = record { work = λ e t. refl; back = λ e. refl }

pub reading_lasts : (p n : ℕ) → Lasting (reading_is p n)
reading_lasts p n = record { work = λ e t. refl; back = λ e. refl }

-- what is queued on a site after a step in one class
pub turns : (s : Site) (c : ℕ) (new : Option ℕ) (d : Did) (gone come : (Item → Bool) → ℕ) → c < 16 → Turnover (s.class c) d.class gone come
    → (f : Item → Bool) → Lasting f → standing f (in_class s c new d).site + gone f ≡ standing f s + come f
turns s c new d gone come l t f h = omega (arith, standing_change f s c new d l, t f h)

-- of a query, its entries under one count are no more than all
pub readings_le : (p n : ℕ) (s : Site) → standing (reading_is p n) s ≤ standing (place_is p) s
unfolding standing
readings_le p n s =
    sum_le (λ c. count (reading_is p n) (s.class c).queue) (λ c. count (place_is p) (s.class c).queue) 16 (λ c l. each (s.class c).queue)
  where
    both_le : (x : Item) → cond (reading_is p n x) 1 0 ≤ cond (place_is p x) 1 0
    both_le (booking e) = omega arith
    both_le (reading q b) = by_test (eqb q p) (λ t. rw t (one_at_most (eqb b n))) (λ f. rw f (omega arith))
      where
        one_at_most : (a : Bool) → cond a 1 0 ≤ 1
        one_at_most a = by_test a (λ t. rw t (omega arith)) (λ f. rw f (omega arith))

    each : (q : List Item) → count (reading_is p n) q ≤ count (place_is p) q
    each [] = omega arith
    each (x ∷ q) = omega (arith, both_le x, each q)

-- WHAT AN ACCEPTED CALL DOES in its class
module _ (s : Site) (w : SoundSite s) where
  pub work_both : (c : ℕ) → accepts s (work c) ≡ true
      → SoundClass c s.confirmations (work_step (s.class c)).class × Works (s.class c) (work_step (s.class c))
  work_both c a = let f = work_accepted s c a in work_step_lem c s.confirmations (s.class c) (w.each c f.0) f.1

  pub offer_both : (b : List ℕ) → accepts s (offer b) ≡ true
      → Offers (request_in b).class s.confirmations (request_in b) (slot_free s) (s.class (request_in b).class)
      (offer_step (request_in b) (slot_free s) (s.class (request_in b).class))
  offer_both b a =
      let f = offer_accepted s b a in
      offer_step_lem (request_in b).class s.confirmations (s.class (request_in b).class) (request_in b) (slot_free s)
      (w.each (request_in b).class f.class) (record { valid = f.valid; class = refl; slot_below = room s w f.few })

  pub confirm_both : (i n : ℕ) → accepts s (confirm i n) ≡ true
      → SoundClass (class_of s i) n (confirm_step i n (s.class (class_of s i))).class
      × Confirms i n (s.class (class_of s i)) (confirm_step i n (s.class (class_of s i)))
  confirm_both i n a =
      let f = confirm_accepted s i n a in
      confirm_step_lem (class_of s i) s.confirmations i n (s.class (class_of s i)) (w.each (class_of s i) f.known)
      (class_found s i f.known) f.waits (omega (arith, f.next))

  -- the entry of a query, and what it does in each class that is named
  abbrev the_entry : Item
  the_entry = reading (free_place s) s.confirmations

  pub query_both : (m c : ℕ) → accepts s (query m) ≡ true → c < 16
      → Joins the_entry c s.confirmations (s.class c) (query_step (free_place s) s.confirmations (s.class c))
  query_both m c a l = query_step_lem c s.confirmations (free_place s) (s.class c) (query_accepted s m a).placed (w.each c l)

  -- what is queued then: by any lasting test, in each class, and over the site where the entry does not pass it
  pub query_count : (m c : ℕ) → accepts s (query m) ≡ true → c < 16 → (f : Item → Bool) → Lasting f
      → count f ((begins s m).class c).queue ≡ count f (s.class c).queue + cond (named m c) (one f the_entry) 0
  query_count m c a l f h =
      by_test (named m c) (λ t. rw t (omega (arith, (query_both m c a l).turnover f h))) (λ g. rw g (omega arith))

  pub query_standing : (m : ℕ) → accepts s (query m) ≡ true → (f : Item → Bool) → Lasting f → f the_entry ≡ false → standing f (begins s m) ≡ standing f s
  unfolding standing
  query_standing m a f h n =
      sum_same (λ c. count f ((begins s m).class c).queue) (λ c. count f (s.class c).queue) 16
      (λ c l. omega (arith, query_count m c a l f h, nothing_more c))
    where
      nothing_more : (c : ℕ) → cond (named m c) (one f the_entry) 0 ≡ 0
      nothing_more c = by_test (named m c) (λ t. rw (t, n)) (λ g. rw g)
