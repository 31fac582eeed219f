-- What the rest of the theory knows of an item of a queue: the only laws that look into one. Assumes nothing.
use Prim.Native.Nat.{ℕ, suc, ◌+◌, ◌<◌, ◌≤◌}
use native.Mathlib.Omega.{arith}
use mathlib.Core.Path.{◌≡◌, refl, ap, ◌∙◌}
use mathlib.Core.Bool.{Bool, true, false, cond}
use mathlib.Core.Option.{Option, none, some}
use mathlib.Core.List.{List, [], ◌∷◌, ◌++◌, map}
use lib.Dec.{eqb}
use lib.ListN.{length, take, get_or}
use lib.Seq.{take-suc, take_all, length-take-le}
use borrow.Author.Tests.{lt-ltb, le-ltb, eqb-true, eq-eqb, leb-true, leb-false, ltb-true, ltb-false, eqb-false, ne_eqb, not-true}
use Rattle.plain.specs.Sizes.{most_ops}
use Rattle.plain.specs.Ops.{Op, put, Request, Ran, carried, declined, carry, reported, carry_at, carry_from, carry_all, and_then, mark_of, leaves}
use Rattle.plain.specs.Ops.{op_ok, request_rules, valid, run_request, run_all}
use Rattle.plain.specs.Queue.{Entry, Item, booking, reading, id_of, ops_of, is_executed, id_is, has_number, place_is, reading_is, is_confirmed, backs_of, line, asks}
use Rattle.plain.specs.Steps.{committed, ending, tried, advanced, numbered, put_back}
use Rattle.plain.specs.Site.{Site, entry_at, commits_by}
use Rattle.plain.specs.Sound.{All, Waiting, Follows, Belongs, Untouched, so_far, Head, AtHead}
use Rattle.plain.specs.History.{request_of, committed_by}
use Rattle.plain.proofs.Tests.{all_true, no}

-- IN LINE
pub follows_confirmed : (m : ℕ) (x : Item) → Follows m x → is_confirmed x ≡ true
follows_confirmed m (booking e) h = lt-ltb 0 e.number (omega arith)
follows_confirmed m (reading p b) h = refl

pub waiting_unconfirmed : (x : Item) → Waiting x → is_confirmed x ≡ false
waiting_unconfirmed (booking e) h = le-ltb 0 e.number (omega arith)
waiting_unconfirmed (reading p b) h = absurd h

pub unconfirmed_waits : (x : Item) → is_confirmed x ≡ false → Waiting x
unconfirmed_waits (booking e) f = omega (arith, ltb-false 0 e.number f)
unconfirmed_waits (reading p b) f = no _ refl f

pub follows_line : (m : ℕ) (x : Item) → Follows m x → m ≤ line x
follows_line m (booking e) h = omega arith
follows_line m (reading p b) h = h

pub follows_weaken : (m m' : ℕ) (x : Item) → m' ≤ m → Follows m x → Follows m' x
follows_weaken m m' (booking e) l h = omega arith
follows_weaken m m' (reading p b) l h = omega arith

-- WHAT A VALID REQUEST HAS
pub record Valid (r : Request) : Type 0 where
  pub id : r.id ≡ 0 → ⊥
  pub class : r.class < 16
  pub some_op : 0 < length r.ops
  pub few_ops : length r.ops ≤ most_ops
  pub ops : All (λ b. b ≡ true) (map op_ok r.ops)

pub is_valid : (r : Request) → valid r ≡ true → Valid r
unfolding valid
is_valid r v =
    let t = all_true (request_rules r) v in
    record {
      id = eqb-false _ _ (not-true _ t.0);
      class = ltb-true _ _ t.1.1.0;
      some_op = leb-true _ _ t.1.1.1.0;
      few_ops = leb-true _ _ t.1.1.1.1.0;
      ops = all_true (map op_ok r.ops) t.1.1.1.1.1.0;
    }

-- LASTING TESTS: work and put-back do not change them
pub record Lasting (f : Item → Bool) : Type 0 where
  pub work : (e : Entry) (t : Ran) → f (booking (advanced e t)) ≡ f (booking e)
  pub back : (e : Entry) → f (put_back (booking e)) ≡ f (booking e)

pub back_test : (f : Item → Bool) → Lasting f → (x : Item) → f (put_back x) ≡ f x
back_test f l (booking e) = l.back e
back_test f l (reading p b) = refl

-- WHAT HAS AN ID is a request
pub request_of_lem : (i : ℕ) (x : Item) → id_is i x ≡ true → (e : Entry) × (x ≡ booking e)
request_of_lem i (booking e) h = (e, refl)
request_of_lem i (reading p b) h = no _ h refl

pub gets_number : (i n : ℕ) (x : Item) → id_is i x ≡ true → 0 < n → has_number (numbered n x) ≡ true
gets_number i n (booking e) h l = lt-ltb 0 n l
gets_number i n (reading p b) h l = no _ h refl

pub no_place : (i p : ℕ) (x : Item) → id_is i x ≡ true → place_is p x ≡ false
no_place i p (booking e) h = refl
no_place i p (reading q b) h = no _ h refl

pub no_reading : (i p n : ℕ) (x : Item) → id_is i x ≡ true → reading_is p n x ≡ false
no_reading i p n (booking e) h = refl
no_reading i p n (reading q b) h = no _ h refl

pub unconfirmed_unnumbered : (x : Item) → is_confirmed x ≡ false → has_number x ≡ false
unconfirmed_unnumbered (booking e) f = f
unconfirmed_unnumbered (reading p b) f = refl

-- y is x but for the work done
pub record Alike (x y : Item) : Type 0 where
  pub tests : (f : Item → Bool) → Lasting f → f y ≡ f x
  pub asks_same : asks y ≡ asks x
  pub line_same : line y ≡ line x
  pub backs_same : backs_of y ≡ backs_of x

pub alike_itself : (x : Item) → Alike x x
alike_itself x = record { tests = λ f l. refl; asks_same = refl; line_same = refl; backs_same = refl }

-- y is x, which has the id i, with its number n
pub record Numbered (i n : ℕ) (x y : Item) : Type 0 where
  pub id : id_is i y ≡ true
  pub asks_same : asks y ≡ asks x
  pub line_is : line y ≡ n
  pub follows : (m : ℕ) → m < n → Follows m y
  pub belongs : (c : ℕ) → Belongs c x → Belongs c y
  pub untouched : Untouched x → Untouched y
  pub head : (base w : List ℕ) → is_executed x ≡ false → AtHead x base w → AtHead y base w
  pub backs_same : backs_of y ≡ backs_of x
  pub ends : (b : ℕ) × (sl : ℕ) × ((w : List ℕ) → ending y w ≡ committed i n b sl (backs_of y))

pub is_numbered : (i n : ℕ) (x : Item) → id_is i x ≡ true → Numbered i n x (numbered n x)
is_numbered i n (reading p b) h = no _ h refl
is_numbered i n (booking e) h = record {
  id = h;
  asks_same = refl;
  line_is = refl;
  follows = λ m l. l;
  belongs = λ c b. b;
  untouched = λ u. u;
  head = λ base w x a. record { within = a.within; unfinished = λ z. leb-false _ _ x; mark = a.mark; cells = a.cells };
  backs_same = refl;
  ends = (e.mark, e.slot, λ w. rw (eqb-true (id_of e) i h));
}

-- y is x, which waits, put back
pub record Back (x y : Item) : Type 0 where
  pub tests : (f : Item → Bool) → Lasting f → f y ≡ f x
  pub waits : Waiting y
  pub belongs : (c : ℕ) → Belongs c x → Belongs c y
  pub untouched : Untouched y

pub is_back : (x : Item) → Waiting x → Back x (put_back x)
is_back (reading p b) h = absurd h
is_back (booking e) h = record { tests = λ f l. l.back e; waits = h; belongs = λ c b. b; untouched = (refl, refl) }

-- AT THE HEAD
then_carried : (p : ℕ) (m : Ran) → and_then m (carry_from p []) ≡ m
then_carried p (carried l) = refl
then_carried p (declined q) = refl

then_then : (m : Ran) (f g h : List ℕ → Ran) → ((r : List ℕ) → g r ≡ and_then (f r) h) → and_then m g ≡ and_then (and_then m f) h
then_then (carried r) f g h e = e r
then_then (declined q) f g h e = refl

-- one operation more, at place q
pub carry_append : (p q : ℕ) (os : List Op) (o : Op) (l : List ℕ) → q ≡ p + length os
    → carry_from p (os ++ (o ∷ [])) l ≡ and_then (carry_from p os l) (carry_at q o)
carry_append p q [] o l e = let z : q ≡ p = omega arith in rw z (then_carried (suc p) (carry_at p o l))
carry_append p q (x ∷ os) o l e =
    then_then (carry_at p x l) (carry_from (suc p) os) (carry_from (suc p) (os ++ (o ∷ []))) (carry_at q o)
    (λ r. carry_append (suc p) q os o r (omega arith))

-- a place that is reported is one of those run
abbrev pub Between : ℕ → ℕ → Ran → Type 0
Between a b (carried l) = Unit
Between a b (declined p) = (a ≤ p) × (p < b)

at_place : (p b : ℕ) (m : Option (List ℕ)) → p < b → Between p b (reported p m)
at_place p b none l = (omega arith, l)
at_place p b (some w) l = tt

then_between : (a b : ℕ) (m : Ran) (f : List ℕ → Ran) → Between a b m → ((r : List ℕ) → Between (suc a) b (f r)) → Between a b (and_then m f)
then_between a b (carried r) f h g = wider (f r) (g r)
  where
    wider : (m : Ran) → Between (suc a) b m → Between a b m
    wider (carried l) h = tt
    wider (declined p) h = (omega (arith, h.0), h.1)
then_between a b (declined p) f h g = h

pub place_between : (p b : ℕ) (os : List Op) (l : List ℕ) → p + length os ≤ b → Between p b (carry_from p os l)
place_between p b [] l h = tt
place_between p b (o ∷ os) l h =
    then_between p b (carry_at p o l) (carry_from (suc p) os) (at_place p b (carry o l) (omega arith))
    (λ r. place_between (suc p) b os r (omega arith))

-- what is tried next is what one operation more makes of the committed cells
pub tried_is : (e : Entry) (base w : List ℕ) → Head e base w → e.done < length (ops_of e)
    → tried e w ≡ carry_all (take (suc e.done) (ops_of e)) base
tried_is e base w h l =
    let n : length (take e.done (ops_of e)) ≡ e.done = length-take-le e.done (ops_of e) (omega arith) in
    rw (h.mark, h.cells, take-suc (ops_of e) e.done (put 0 0) l, carry_append 1 (suc e.done) (take e.done (ops_of e)) o base (omega arith))
    (go (so_far e base) (place_between 1 (suc e.done) (take e.done (ops_of e)) base (omega arith)))
  where
    o : Op
    o = get_or (ops_of e) e.done (put 0 0)

    at : List ℕ → Ran
    at = carry_at (suc e.done) o

    go : (m : Ran) → Between 1 (suc e.done) m → cond (eqb (mark_of m) 0) (at (leaves m base)) (declined (mark_of m)) ≡ and_then m at
    go (carried r) b = refl
    go (declined p) b = let ne : p ≡ 0 → ⊥ = λ z. omega (arith, b.0) in rw (ne_eqb p 0 ne)

-- what becomes the head
pub at_head : (c : ℕ) (x : Item) (base : List ℕ) → Untouched x → Belongs c x → AtHead x base base
at_head c (reading p n) base u b = refl
at_head c (booking e) base u b =
    let v = is_valid e.request b.valid in
    record { within = omega arith; unfinished = λ n. omega arith; mark = rw (u.0, u.1); cells = rw u.0 }

-- an executed head's cells, and what its commit answers
pub executed_cells : (x : Item) (base w : List ℕ) → is_executed x ≡ true → AtHead x base w → w ≡ run_all base (asks x)
unfolding run_all run_request
executed_cells (reading p b) base w x a = no _ x refl
executed_cells (booking e) base w x a =
    a.cells ∙ ap (λ (os : List Op). leaves (carry_all os base) base) (take_all e.done (ops_of e) (leb-true _ _ x))

pub ending_commits : (x : Item) (w : List ℕ) → is_confirmed x ≡ true → commits_by (ending x w) ≡ cond (has_number x) 1 0
ending_commits (booking e) w t = rw t
ending_commits (reading p b) w t = refl

pub ending_committed : (s : Site) (x : Item) (w : List ℕ) → ((i : ℕ) → id_is i x ≡ true → request_of (entry_at s i) ≡ asks x)
    → committed_by s (ending x w) ≡ asks x
unfolding committed_by
ending_committed s (booking e) w h = h (id_of e) (eq-eqb (id_of e) (id_of e) refl)
ending_committed s (reading p b) w h = refl
