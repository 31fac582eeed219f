-- A site: 16 classes, three counts and the ids last confirmed; its calls; document 01's table of refusals; what an accepted call does. Assumes nothing.
use Rattle.std.specs.Prelude.{ℕ, zero, suc, ◌+◌, ◌*◌, ◌-◌, ◌/◌, ◌%◌, ◌<◌, ◌≤◌, Bool, true, false, not, cond, List, [], ◌∷◌, leb, ltb, eqb, length, get_or, replicate}
use Rattle.std.proofs.Math.Option.{Option, none, some}
use Rattle.plain.specs.Sizes.{class_count, cell_count, slot_count, last_number, kept_count, query_count}
use Rattle.plain.specs.Ops.{cell}
use Rattle.plain.specs.Record.{request, request_in}
use Rattle.plain.specs.Queue.{Item, slot_is, place_is, is_confirmed, backs_of, count, has, entry_of, owed, asked}
use Rattle.plain.specs.Steps.{Class, Did, Answer, refused, queued, stepped, executed, committed, waiting}
use Rattle.plain.specs.Steps.{value, to_do, unconfirmed, begun, entry, idle, offer_step, work_step, confirm_step, query_step, class_with}

pub record Site : Type 0 where
  pub class : ℕ → Class
  pub confirmations : ℕ
  pub commits : ℕ
  -- the queries begun; a query is open as long as an entry of it stands in a queue
  pub queries : ℕ
  -- the id that was confirmed under each number; of these the last 256 are kept
  pub kept : ℕ → ℕ

abbrev pub zeros : List ℕ
zeros = replicate cell_count 0

-- FRESH. No request queued, all counts 0, all cells 0
unfoldable pub fresh : Site
fresh = record { class = λ c. class_with [] zeros zeros; confirmations = 0; commits = 0; queries = 0; kept = λ n. 0 }

-- a call with its arguments: a record's bytes, a class, an id and a number, a class and a cell, an id, a mask of classes
pub data Call : Type 0 where
  offer : (bytes : List ℕ) → Call
  work : (class : ℕ) → Call
  confirm : (id number : ℕ) → Call
  read : (class cell : ℕ) → Call
  look : (id : ℕ) → Call
  query : (mask : ℕ) → Call

-- the lowest of `count` numbers from `from` that passes the test, or the one past them
abbrev pub lowest : (ℕ → Bool) → ℕ → ℕ → ℕ
lowest p from zero = from
lowest p from (suc count) = cond (p from) from (lowest p (suc from) count)

-- the sum over the numbers below n
unfoldable pub sum : (ℕ → ℕ) → ℕ → ℕ
sum f zero = 0
sum f (suc n) = sum f n + f n

-- how many of the site's requests pass a test
unfoldable pub standing : (Item → Bool) → Site → ℕ
standing f s = sum (λ c. count f (s.class c).queue) class_count

-- the class in whose queue the id stands, 16 if none; is the id queued? the request queued under it
unfoldable pub class_of : Site → ℕ → ℕ
class_of s i = lowest (λ c. has i (s.class c).queue) 0 class_count

abbrev pub is_queued : Site → ℕ → Bool
is_queued s i = ltb (class_of s i) class_count

abbrev pub entry_at : Site → ℕ → Option Item
entry_at s i = entry_of i (s.class (class_of s i)).queue

abbrev pub confirmed_at : Option Item → Bool
confirmed_at none = false
confirmed_at (some x) = is_confirmed x

abbrev pub backs_at : Option Item → ℕ
backs_at none = 0
backs_at (some x) = backs_of x

-- does the slot stand in no queue? the lowest-numbered free slot
unfoldable pub is_free : Site → ℕ → Bool
is_free s i = eqb (standing (slot_is i) s) 0

unfoldable pub slot_free : Site → ℕ
slot_free s = lowest (is_free s) 0 slot_count

unfoldable pub number_queued : Site → ℕ
number_queued s = sum (λ c. length (asked (s.class c).queue)) class_count

-- the k low digits of n, lowest first; does a mask name class c? Digits past the sixteenth are not looked at
unfoldable pub bits : ℕ → ℕ → List Bool
bits zero n = []
bits (suc k) n = eqb (n % 2) 1 ∷ bits k (n / 2)

unfoldable pub named : ℕ → ℕ → Bool
named mask c = get_or (bits class_count mask) c false

-- the first class that it names, 16 if none
unfoldable pub first_named : ℕ → ℕ
first_named mask = lowest (named mask) 0 class_count

-- is the query with this place open? the lowest of the places 1 to 8 that is free, 9 if none is
unfoldable pub is_open : Site → ℕ → Bool
is_open s p = ltb 0 (standing (place_is p) s)

unfoldable pub free_place : Site → ℕ
free_place s = lowest (λ p. not (is_open s p)) 1 query_count

-- number n is among the last 256 of so many confirmations
pub record Recent (confirmations n : ℕ) : Type 0 where
  pub given : 0 < n
  pub within : n ≤ confirmations
  pub last : confirmations < n + kept_count

-- the first of those numbers, and how many they are
abbrev pub first_recent : ℕ → ℕ
first_recent confirmations = suc (confirmations - kept_count)

abbrev pub recent_count : ℕ → ℕ
recent_count confirmations = confirmations - (confirmations - kept_count)

-- is the id kept: was it confirmed under one of the last 256 numbers?
unfoldable pub is_kept : Site → ℕ → Bool
is_kept s i =
    ltb (lowest (λ n. eqb (s.kept n) i) (first_recent s.confirmations) (recent_count s.confirmations)) (suc s.confirmations)

-- THE TABLE OF REFUSALS: for each call the tests and the number that each gives, in the table's order: the smallest number first, but 14 stands
-- between 4 and 5. So an id may be used again when its request has committed and its number is no longer among the last 256.
-- Numbers 1 and 2 speak of runs of cells and of soundness, and stand where those are; 13 belongs to the driving program
abbrev pub missing : {A : Type 0} → Option A → Bool
missing none = true
missing (some x) = false

abbrev pub tests : Site → Call → List (Bool × ℕ)
tests s (offer b) =
    (missing (request b), 3)
    ∷ (is_queued s (request_in b).id, 4)
    ∷ (is_kept s (request_in b).id, 14)
    ∷ (leb slot_count (number_queued s), 5)
    ∷ []
tests s (work c) = (leb class_count c, 10) ∷ (idle (s.class c).queue, 11) ∷ []
tests s (confirm i n) =
    (leb last_number s.confirmations, 6)
    ∷ (not (eqb n (s.confirmations + 1)), 7)
    ∷ (not (is_queued s i), 8)
    ∷ (confirmed_at (entry_at s i), 9)
    ∷ []
tests s (read c k) = (leb class_count c, 10) ∷ (leb cell_count k, 12) ∷ []
tests s (look i) = (not (is_queued s i), 8) ∷ []
tests s (query m) =
    (leb class_count (first_named m), 17)
    ∷ (ltb query_count (free_place s), 18)
    ∷ (leb last_number s.queries, 24)
    ∷ []

-- a number's row in the table: 14 stands between 4 and 5
abbrev pub row : ℕ → ℕ
row n = cond (eqb n 14) 9 (2 * n)

-- the first of the tests that holds gives its number; 0 if none does
abbrev pub first : List (Bool × ℕ) → ℕ
first [] = 0
first (t ∷ ts) = cond t.0 t.1 (first ts)

-- the number by which a call is refused, 0 if it is accepted
unfoldable pub refusal : Site → Call → ℕ
refusal s k = first (tests s k)

abbrev pub accepts : Site → Call → Bool
accepts s k = eqb (refusal s k) 0

pub record Outcome : Type 0 where
  pub site : Site
  pub answer : Answer

-- the id that an answer says was committed, and how many commits that makes
abbrev pub commit_of : Answer → Option ℕ
commit_of (refused n) = none
commit_of (queued i c p s) = none
commit_of (stepped i d) = none
commit_of (executed i) = none
commit_of (committed i n d s b) = some i
commit_of (waiting i w b) = none
commit_of (value x) = none
commit_of (to_do w b) = none
commit_of (unconfirmed b) = none
commit_of (begun p) = none
commit_of (entry p l) = none

abbrev pub commits_by : Answer → ℕ
commits_by a = elim (commit_of a) [ none ↦ 0 | some i ↦ 1 ]

-- how many confirmations a step brings that gives the next number to an id, or to none; and the ids by number then
abbrev pub given : Option ℕ → ℕ
given none = 0
given (some i) = 1

abbrev pub kept_with : Option ℕ → ℕ → (ℕ → ℕ) → ℕ → ℕ
kept_with none n f m = f m
kept_with (some i) n f m = cond (eqb m n) i (f m)

-- a step in one class that gives the next number to an id, or to none
abbrev pub at_class : ℕ → Class → (ℕ → Class) → ℕ → Class
at_class c k f d = cond (eqb d c) k (f d)

abbrev pub in_class : Site → ℕ → Option ℕ → Did → Outcome
in_class s c new d = record {
  site = record {
    class = at_class c d.class s.class;
    confirmations = s.confirmations + given new;
    commits = s.commits + commits_by d.answer;
    queries = s.queries;
    kept = kept_with new (suc s.confirmations) s.kept;
  };
  answer = d.answer;
}

-- QUERY. Each class that the mask names gets an entry of the query with the lowest free place
abbrev pub in_named : Site → ℕ → (Class → Class) → ℕ → Class
in_named s m step c = cond (named m c) (step (s.class c)) (s.class c)

abbrev pub begins : Site → ℕ → Site
begins s m = record {
  class = in_named s m (query_step (free_place s) s.confirmations);
  confirmations = s.confirmations;
  commits = s.commits;
  queries = s.queries + 1;
  kept = s.kept;
}

-- LOOK. W for a confirmed request, or that it is unconfirmed; and how often it was put back
abbrev pub look_answer : ℕ → Class → Answer
look_answer i k =
    cond (confirmed_at (entry_of i k.queue)) (to_do (owed i k.queue) (backs_at (entry_of i k.queue))) (unconfirmed (backs_at (entry_of i k.queue)))

-- what an accepted call does
unfoldable pub act : Site → Call → Outcome
act s (offer b) =
    in_class s (request_in b).class none (offer_step (request_in b) (slot_free s) (s.class (request_in b).class))
act s (work c) = in_class s c none (work_step (s.class c))
act s (confirm i n) = in_class s (class_of s i) (some i) (confirm_step i n (s.class (class_of s i)))
act s (read c k) = record { site = s; answer = value (cell (s.class c).committed k) }
act s (look i) = record { site = s; answer = look_answer i (s.class (class_of s i)) }
act s (query m) = record { site = begins s m; answer = begun (free_place s) }

-- A CALL: refused under its number with nothing changed, or done
unfoldable pub call : Site → Call → Outcome
call s k = cond (accepts s k) (act s k) (record { site = s; answer = refused (refusal s k) })
