-- The event of document 01's driving program: 72 bytes to a call or nothing, and what an event does to a site with its cells. Assumes nothing.
use Rattle.std.specs.Prelude.{ℕ, ◌≡◌, cond, List, eqb, length, drop}
use Rattle.std.proofs.Math.Option.{Option, none, some}
use Rattle.plain.specs.Record.{byte, number}
use Rattle.plain.specs.Steps.{Answer, refused}
use Rattle.plain.specs.Site.{Call, offer, confirm, work, read}
use Rattle.store.specs.Meaning.{cells_of}
use Rattle.store.specs.Calls.{State}
use Rattle.promised.specs.Promised.{Promised}
use Rattle.line.specs.Text.{line_of}

-- an event has 72 bytes: kind, class, cell, an unused byte, a 4-byte number, a 64-byte record
abbrev pub event_size : ℕ
event_size = 72

-- the number that refuses a short event, and one of no known kind
abbrev pub bad_event : ℕ
bad_event = 13

-- the call by kind: 1 offer, 2 confirm (its id is the record's first four bytes), 3 work, 4 read; what a kind has no use for is not looked at
abbrev pub call_of_kind : ℕ → List ℕ → Option Call
call_of_kind kind b =
    cond (eqb kind 1) (some (offer (drop 8 b)))
    (cond (eqb kind 2) (some (confirm (number b 8) (number b 4)))
    (cond (eqb kind 3) (some (work (byte b 1)))
    (cond (eqb kind 4) (some (read (byte b 1) (byte b 2))) none)))

-- the call that an event's bytes ask for, or nothing
unfoldable pub call_of : List ℕ → Option Call
call_of b = cond (eqb (length b) event_size) (call_of_kind (byte b 0) b) none

-- the cells that a work event gives where it reads the entry of a query: the committed ones of its class
abbrev pub read_by : List ℕ → List ℕ → List ℕ
read_by b run = cells_of run (byte b 1)

-- AN EVENT: its call is made, with all that is promised of it, or it is refused with 13 and nothing is touched
pub record Happened (x : State) (bytes : List ℕ) (y : State) (a : Answer) : Type 0 where
  pub is_call : (k : Call) → call_of bytes ≡ some k → Promised x k y a
  pub bad : call_of bytes ≡ none → (y ≡ x) × (a ≡ refused bad_event)

-- ITS LINE: the event's place in the input, and what was answered
pub record Listed (x : State) (place : ℕ) (bytes : List ℕ) (y : State) (text : List ℕ) : Type 0 where
  pub answer : Answer
  pub happened : Happened x bytes y answer
  pub says : text ≡ line_of place answer
