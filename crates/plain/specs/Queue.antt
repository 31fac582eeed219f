-- What stands in the queue of a class, and how a queue is looked through. Assumes nothing.
use Rattle.std.specs.Prelude.{ℕ, ◌+◌, ◌-◌, Bool, true, false, cond, ◌&&◌, ◌||◌, List, [], ◌∷◌, ◌++◌, leb, ltb, eqb, length}
use Rattle.std.proofs.Math.Option.{Option, none, some}
use Rattle.plain.specs.Ops.{Op, Request}

-- a queued request: number 0 while it waits, the definitive number once it is confirmed; its mark is the place of the first of its done
-- operations that declined, or 0; and how often it was put back
pub record Entry : Type 0 where
  pub request : Request
  pub slot : ℕ
  pub number : ℕ
  pub done : ℕ
  pub mark : ℕ
  pub backs : ℕ

abbrev pub id_of : Entry → ℕ
id_of e = e.request.id

abbrev pub ops_of : Entry → List Op
ops_of e = e.request.ops

-- what stands in a queue: a request, or an entry of the query with this place that began at this count of confirmations
pub data Item : Type 0 where
  booking : Entry → Item
  reading : (place begun : ℕ) → Item

-- a request is executed when all its operations are done
abbrev pub is_executed : Item → Bool
is_executed (booking e) = leb (length (ops_of e)) e.done
is_executed (reading p b) = false

-- is it a request with this id? this slot? this definitive number? one that has a number?
abbrev pub id_is : ℕ → Item → Bool
id_is i (booking e) = eqb (id_of e) i
id_is i (reading p b) = false

abbrev pub slot_is : ℕ → Item → Bool
slot_is i (booking e) = eqb e.slot i
slot_is i (reading p b) = false

abbrev pub number_is : ℕ → Item → Bool
number_is n (booking e) = ltb 0 n && eqb e.number n
number_is n (reading p b) = false

abbrev pub has_number : Item → Bool
has_number (booking e) = ltb 0 e.number
has_number (reading p b) = false

-- is it an entry of a query? of that with this place? of that with this place which began at this count?
abbrev pub is_reading : Item → Bool
is_reading (booking e) = false
is_reading (reading p b) = true

abbrev pub place_is : ℕ → Item → Bool
place_is i (booking e) = false
place_is i (reading p b) = eqb p i

abbrev pub reading_is : ℕ → ℕ → Item → Bool
reading_is i n (booking e) = false
reading_is i n (reading p b) = eqb p i && eqb b n

-- does it stand among the confirmed?
abbrev pub is_confirmed : Item → Bool
is_confirmed (booking e) = ltb 0 e.number
is_confirmed (reading p b) = true

-- how often it was put back
abbrev pub backs_of : Item → ℕ
backs_of (booking e) = e.backs
backs_of (reading p b) = 0

-- by what it stands in line: the number, or the count at the beginning
abbrev pub line : Item → ℕ
line (booking e) = e.number
line (reading p b) = b

-- the work calls that it still takes: one for each operation still to do; an entry is read by one
abbrev pub left : Item → ℕ
left (booking e) = length (ops_of e) - e.done
left (reading p b) = 1

-- the requests that it asks to carry out, and those of a queue
abbrev pub asks : Item → List Request
asks (booking e) = e.request ∷ []
asks (reading p b) = []

abbrev pub asked : List Item → List Request
asked [] = []
asked (x ∷ q) = asks x ++ asked q

-- Of a queue, by a test: does one pass it? how many do? the first that does; the queue without that one; the work calls up to that one's end
abbrev pub any : (Item → Bool) → List Item → Bool
any f [] = false
any f (x ∷ q) = f x || any f q

abbrev pub count : {A : Type 0} → (A → Bool) → List A → ℕ
count f [] = 0
count f (x ∷ q) = cond (f x) 1 0 + count f q

abbrev pub first_of : (Item → Bool) → List Item → Option Item
first_of f [] = none
first_of f (x ∷ q) = cond (f x) (some x) (first_of f q)

abbrev pub drop_of : (Item → Bool) → List Item → List Item
drop_of f [] = []
drop_of f (x ∷ q) = cond (f x) q (x ∷ drop_of f q)

abbrev pub up_to : (Item → Bool) → List Item → ℕ
up_to f [] = 0
up_to f (x ∷ q) = left x + cond (f x) 0 (up_to f q)

-- the same for an id; W is the operations still to do by the request and by all before it, and the entries before it
abbrev pub has : ℕ → List Item → Bool
has i q = any (id_is i) q

abbrev pub entry_of : ℕ → List Item → Option Item
entry_of i q = first_of (id_is i) q

abbrev pub without : ℕ → List Item → List Item
without i q = drop_of (id_is i) q

abbrev pub owed : ℕ → List Item → ℕ
owed i q = up_to (id_is i) q

-- the confirmed ones of a queue
abbrev pub confirmed_part : List Item → List Item
confirmed_part [] = []
confirmed_part (x ∷ q) = cond (is_confirmed x) (x ∷ confirmed_part q) (confirmed_part q)

-- the work calls that these still take, one after another
abbrev pub costs : List Item → ℕ
costs [] = 0
costs (x ∷ q) = left x + costs q

-- the operations and query entries still to do by the confirmed part of a queue
unfoldable pub confirmed_costs : List Item → ℕ
confirmed_costs q = costs (confirmed_part q)

-- the queue with e directly before the first waiting one
abbrev pub before_waiting : Item → List Item → List Item
before_waiting e [] = e ∷ []
before_waiting e (x ∷ q) = cond (is_confirmed x) (x ∷ before_waiting e q) (e ∷ x ∷ q)
