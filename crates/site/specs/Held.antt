-- The struct as the theory has it, what its answers are in document 01, and what the private steps promise. Assumes nothing.
use Rattle.std.specs.Prelude.{ℕ, ◌+◌, ◌<◌, ◌≤◌, ◌≡◌, true, List, set, Option, Some, None, Result, Ok, Err}
use Rattle.plain.specs.Steps as K
use Rattle.plain.specs.Site.{Call}
use Rattle.usedmap.specs.Flags.{used_of}
use Rattle.queries.specs.Table.{lowest_free_place}
use Rattle.slots.specs.declared.Slot.{Slot}
use Rattle.slots.specs.Meaning.{slot_at}
use Rattle.store.specs.Store.{Store}
use Rattle.store.specs.Meaning.{places, len_of}
use Rattle.store.specs.Sound.{times, Laid, SlotsOk, BacksOk}
use Rattle.store.specs.Checks.{LaidIn, KeptOk, ids_of, numbers_of}
use Rattle.store.specs.Steps.{placed, head_slot}
use Rattle.store.specs.Calls.{State, RightCells, SoundState, Called}
use Rattle.site.specs.Refusals.{number_of}
use Rattle.site.specs.declared.refusal.Refusal.{Refusal}
use Rattle.site.specs.declared.Site.{Site}
use Rattle.site.specs.declared.Answer.{Answer}
use Rattle.site.specs.declared.Answer.TheVariants as a

-- field by field
abbrev pub store : Site → Store
store s = record {
  slots = s.slots;
  queue = s.queue;
  lens = s.lens;
  low = s.used.lo;
  high = s.used.hi;
  confirmations = s.confirmations;
  commits = s.commits;
  kept = s.kept;
  queries = s.queries;
  begun = s.begun;
  sums = s.sums;
}

-- a site with its two runs of cells
abbrev pub state_of : Site → List ℕ → List ℕ → State
state_of s base wrk = record { site = store s; committed = base; working = wrk }

-- document 01's answer, with its number or values, for each case; a work call that reads an entry gives these cells, the committed ones of its class
abbrev pub answer_of : Answer → List ℕ → K.Answer
answer_of (a.Refused n) cells = K.refused n
answer_of (a.Queued id class place slot) cells = K.queued id class place slot
answer_of (a.Stepped id done) cells = K.stepped id done
answer_of (a.Executed id) cells = K.executed id
answer_of (a.Committed id number mark slot backs) cells = K.committed id number mark slot backs
answer_of (a.Waiting id w back) cells = K.waiting id w back
answer_of (a.Value n) cells = K.value n
answer_of (a.ToDo w backs) cells = K.to_do w backs
answer_of (a.Unconfirmed backs) cells = K.unconfirmed backs
answer_of (a.Begun place) cells = K.begun place
answer_of (a.Entry place) cells = K.entry place cells

-- the rules of a sound site but that of the cells
abbrev pub InOrder : Store → Type 0
InOrder s =
    SlotsOk s × BacksOk s.slots (s.confirmations + s.begun) × LaidIn s × KeptOk (ids_of s.slots) (numbers_of s.slots) s.confirmations s.kept

-- what every call begins with: the cells are right and the site sound, or every call is refused
abbrev pub Door : {T : Type 0} → State → Result T Refusal → Type 0
Door x (Ok v) = RightCells x × SoundState x
Door x (Err r) = (k : Call) → Called x k x (K.refused (number_of r))

-- what a call is judged by before it acts: it may act, with what was found, or is refused
abbrev pub Judged : {T : Type 0} → State → Call → (T → Type 0) → Result T Refusal → Type 0
Judged x k may (Ok v) = may v
Judged x k may (Err r) = Called x k x (K.refused (number_of r))

-- the slot of a queued id, if it is queued
abbrev pub SlotOf : List Slot → ℕ → Option ℕ → Type 0
SlotOf slots id (Some i) = (i < 128) × ((slot_at slots i).id ≡ id) × (0 < id)
SlotOf slots id None = (j : ℕ) → j < 128 → 0 < (slot_at slots j).id → (slot_at slots j).id ≡ id → ⊥

-- slot i takes v and stands at the end of its class's queue
pub record Placed (s : Site) (i : ℕ) (v : Slot) (r : Site) : Type 0 where
  pub is : store r ≡ placed (store s) v.class i v r.used.lo r.used.hi
  pub used : used_of r.used.lo r.used.hi ≡ set (used_of s.used.lo s.used.hi) i true

-- class c has a head that is an entry, or not executed
pub record MayWork (x : State) (c : ℕ) : Type 0 where
  pub right : RightCells x
  pub sound : SoundState x
  pub class : c < 16
  pub some : 0 < len_of x.site c
  pub unfinished : head_slot x.site c < 128 → (slot_at x.site.slots (head_slot x.site c)).done ≡ (slot_at x.site.slots (head_slot x.site c)).count → ⊥

-- what a head answers that did an operation and has slot i: how many are done, that it is executed, or its commit
pub record Worked (v : Slot) (i : ℕ) (r : Answer) : Type 0 where
  pub left : v.done < v.count → r ≡ a.Stepped v.id v.done
  pub executed : v.count ≤ v.done → v.number ≡ 0 → r ≡ a.Executed v.id
  pub committed : v.count ≤ v.done → 0 < v.number → r ≡ a.Committed v.id v.number v.mark i v.backs

-- a query over a mask of classes may begin: the mask names one, a place is free, and one more can be counted
pub record MayQuery (x : State) (mask : ℕ) : Type 0 where
  pub right : RightCells x
  pub sound : SoundState x
  pub some : mask ≡ 0 → ⊥
  pub free : lowest_free_place x.site.queries < 8
  pub more : x.site.begun < 4294967295

-- slot i stands in class c's queue
pub record InQueue (s : Store) (c i : ℕ) : Type 0 where
  pub laid : Laid s
  pub class : c < 16
  pub stands : 0 < times i (places s c)

-- the request in slot i may be confirmed
pub record Confirmable (x : State) (i : ℕ) : Type 0 where
  pub right : RightCells x
  pub sound : SoundState x
  pub small : i < 128
  pub used : 0 < (slot_at x.site.slots i).id
  pub waits : (slot_at x.site.slots i).number ≡ 0
  pub more : x.site.confirmations < 4294967295

-- the request id may be confirmed under a number, in slot i of class c
pub record MayConfirm (x : State) (id number i c : ℕ) : Type 0 where
  pub ready : Confirmable x i
  pub is : (slot_at x.site.slots i).id ≡ id
  pub next : number ≡ x.site.confirmations + 1
  pub class : c ≡ (slot_at x.site.slots i).class

-- the request in slot i is the executed head of its class
abbrev pub HeadDone : Store → ℕ → Type 0
HeadDone s i = (head_slot s (slot_at s.slots i).class ≡ i) × ((slot_at s.slots i).done ≡ (slot_at s.slots i).count)
