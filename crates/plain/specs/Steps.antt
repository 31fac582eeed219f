-- One class: its queue, its committed and its working cells, and document 01's steps on them. Assumes nothing.
use Rattle.std.specs.Prelude.{ℕ, suc, ◌+◌, Bool, true, cond, List, [], ◌∷◌, ◌++◌, eqb, length, get_or}
use Rattle.std.proofs.Math.Option.{none, some}
use Rattle.plain.specs.Ops.{put, Request, Ran, declined, carry_at, mark_of, leaves}
use Rattle.plain.specs.Queue.{Entry, Item, booking, reading, id_of, ops_of, is_executed, id_is, is_confirmed}
use Rattle.plain.specs.Queue.{entry_of, without, owed, before_waiting}

pub record Class : Type 0 where
  pub queue : List Item
  pub committed : List ℕ
  pub working : List ℕ

-- What a call answers: the words of document 01's driving program, look's two answers, a query's place, and what an entry of it reads
pub data Answer : Type 0 where
  refused : (reason : ℕ) → Answer
  queued : (id class place slot : ℕ) → Answer
  stepped : (id done : ℕ) → Answer
  executed : (id : ℕ) → Answer
  committed : (id number mark slot backs : ℕ) → Answer
  waiting : (id w put_back : ℕ) → Answer
  value : (cell : ℕ) → Answer
  to_do : (w backs : ℕ) → Answer
  unconfirmed : (backs : ℕ) → Answer
  begun : (place : ℕ) → Answer
  entry : (place : ℕ) (cells : List ℕ) → Answer

-- a step's outcome in a class
pub record Did : Type 0 where
  pub class : Class
  pub answer : Answer

abbrev pub class_with : List Item → List ℕ → List ℕ → Class
class_with q base w = record { queue = q; committed = base; working = w }

-- COMMIT. The working cells become the committed ones; the next of the queue is the head. So ends a request, with its commit, and an entry of a
-- query, with its reading, which leaves the cells
abbrev pub ending : Item → List ℕ → Answer
ending (booking e) w = committed (id_of e) e.number e.mark e.slot e.backs
ending (reading p b) w = entry p w

abbrev pub commit : Item → List Item → List ℕ → Did
commit x rest w = record { class = class_with rest w w; answer = ending x w }

-- OFFER. The request joins the end of the queue, waiting, with nothing done and never put back
abbrev pub new_entry : Request → ℕ → Entry
new_entry r slot = record { request = r; slot = slot; number = 0; done = 0; mark = 0; backs = 0 }

unfoldable pub offer_step : Request → ℕ → Class → Did
offer_step r slot k = record {
  class = class_with (k.queue ++ (booking (new_entry r slot) ∷ [])) k.committed k.working;
  answer = queued r.id r.class (length k.queue + 1) slot;
}

-- WORK. The head does its next operation on the working cells; once it has declined it changes neither cells nor mark any more.
-- `declined` where it declines or has declined: the working cells are the committed ones then
abbrev pub tried : Entry → List ℕ → Ran
tried e w = cond (eqb e.mark 0) (carry_at (suc e.done) (get_or (ops_of e) e.done (put 0 0)) w) (declined e.mark)

abbrev pub advanced : Entry → Ran → Entry
advanced e t =
    record { request = e.request; slot = e.slot; number = e.number; done = suc e.done; mark = mark_of t; backs = e.backs }

-- if that was its last, a confirmed head commits, and a waiting head is executed and stays. An entry of a query that is head is read and taken away
abbrev pub worked : Entry → List Item → List ℕ → List ℕ → Did
worked e rest base w =
    cond (is_executed (booking e))
    (cond (is_confirmed (booking e))
    (commit (booking e) rest w)
    (record { class = class_with (booking e ∷ rest) base w; answer = executed (id_of e) }))
    (record { class = class_with (booking e ∷ rest) base w; answer = stepped (id_of e) e.done })

abbrev pub work_on : List Item → List ℕ → List ℕ → Did
work_on [] base w = record { class = class_with [] base w; answer = refused 11 }
work_on (reading p b ∷ rest) base w = record { class = class_with rest base w; answer = ending (reading p b) base }
work_on (booking e ∷ rest) base w = worked (advanced e (tried e w)) rest base (leaves (tried e w) base)

unfoldable pub work_step : Class → Did
work_step k = work_on k.queue k.committed k.working

-- there is no work where the queue is empty or its head executed
abbrev pub idle : List Item → Bool
idle [] = true
idle (x ∷ rest) = is_executed x

-- CONFIRM. The request gets its number
abbrev pub with_number : ℕ → Entry → Entry
with_number n e = record { request = e.request; slot = e.slot; number = n; done = e.done; mark = e.mark; backs = e.backs }

abbrev pub numbered : ℕ → Item → Item
numbered n (booking e) = booking (with_number n e)
numbered n (reading p b) = reading p b

-- put back: nothing done, not declined, and put back once more
abbrev pub as_put_back : Entry → Entry
as_put_back e = record { request = e.request; slot = e.slot; number = e.number; done = 0; mark = 0; backs = suc e.backs }

abbrev pub put_back : Item → Item
put_back (booking e) = booking (as_put_back e)
put_back (reading p b) = reading p b

-- a head that is another request, if it waits, is put back: the head, the working cells, and the id put back or 0
abbrev pub backed : Item → Item
backed x = cond (is_confirmed x) x (put_back x)

abbrev pub back_cells : Item → List ℕ → List ℕ → List ℕ
back_cells x base w = cond (is_confirmed x) w base

abbrev pub back_id : Item → ℕ
back_id (booking e) = cond (is_confirmed (booking e)) 0 (id_of e)
back_id (reading p b) = 0

-- the confirmed request moves to directly before the first waiting one; the others keep their order
abbrev pub moved : ℕ → ℕ → List Item → List Item
moved i n q = elim (entry_of i q) [ none ↦ q | some e ↦ before_waiting (numbered n e) (without i q) ]

abbrev pub told : ℕ → ℕ → List Item → List ℕ → List ℕ → Did
told i back q base w = record { class = class_with q base w; answer = waiting i (owed i q) back }

-- an executed head commits; any other request is numbered and moves
abbrev pub confirm_on : ℕ → ℕ → List Item → List ℕ → List ℕ → Did
confirm_on i n [] base w = told i 0 [] base w
confirm_on i n (x ∷ rest) base w =
    cond (id_is i x)
    (cond (is_executed x)
    (commit (numbered n x) rest w)
    (told i 0 (moved i n (x ∷ rest)) base w))
    (told i (back_id x) (moved i n (backed x ∷ rest)) base (back_cells x base w))

unfoldable pub confirm_step : ℕ → ℕ → Class → Did
confirm_step i n k = confirm_on i n k.queue k.committed k.working

-- QUERY. Its entry enters before the waiting, and a head that waits is put back, as in confirm
abbrev pub query_on : Item → List Item → List ℕ → List ℕ → Class
query_on y [] base w = class_with (y ∷ []) base w
query_on y (x ∷ rest) base w = class_with (before_waiting y (backed x ∷ rest)) base (back_cells x base w)

unfoldable pub query_step : (place begun : ℕ) → Class → Class
query_step p b k = query_on (reading p b) k.queue k.committed k.working
