-- What a slot's operations make of the cells of its class. Assumes nothing.
use Rattle.std.specs.Prelude.{ℕ, suc, ◌≡◌, ◌⊎◌, Bool, cond, List, eqb, take}
use Rattle.plain.specs.Ops as P
use Rattle.plain.specs.Sound.{Head}
use Rattle.plain.specs.Decides.{Decides}
use Rattle.cells.specs.Ops.{op_of}
use Rattle.slots.specs.declared.Slot.{Slot}
use Rattle.slots.specs.Meaning.{op_at, request_of, entry_of}

-- operation k of a slot, which stands at place k + 1, on cells of its class
abbrev pub carried_at : Slot → ℕ → List ℕ → P.Ran
carried_at v k w = P.carry_at (suc k) (op_of (op_at v k)) w

-- what a mark and the cells tell of a run: 0 if none declined, else the place of the first that did
abbrev pub ran_to : ℕ → List ℕ → P.Ran
ran_to mark w = cond (eqb mark 0) (P.carried w) (P.declined mark)

-- what a slot's next operation makes of the working cells; where one has declined its place stays
abbrev pub tried_by : Slot → List ℕ → P.Ran
tried_by v w = cond (eqb v.mark 0) (carried_at v v.done w) (P.declined v.mark)

abbrev pub after_step : Slot → P.Ran → Slot
after_step v t =
    record { id = v.id; class = v.class; count = v.count; ops = v.ops; number = v.number; done = suc v.done; mark = P.mark_of t; backs = v.backs }

-- where an operation has declined the working cells are the committed ones
abbrev pub Marked : Slot → List ℕ → List ℕ → Type 0
Marked v base w = (v.mark ≡ 0) ⊎ (w ≡ base)

pub record StepDone (v : Slot) (base w : List ℕ) (r : Slot) (w' : List ℕ) : Type 0 where
  pub slot : r ≡ after_step v (tried_by v w)
  pub cells : w' ≡ P.leaves (tried_by v w) base

-- what running a slot's done operations on the committed cells comes to
abbrev pub ran_on : Slot → List ℕ → P.Ran
ran_on v base = P.carry_all (take v.done (request_of v).ops) base

pub record RanOn (v : Slot) (base : List ℕ) (mark : ℕ) (after : List ℕ) : Type 0 where
  pub mark_is : mark ≡ P.mark_of (ran_on v base)
  pub cells : after ≡ P.leaves (ran_on v base) base

-- whether a slot may be the head of its class with these cells; its slot number does not matter
abbrev pub HeadOk : Bool → Slot → List ℕ → List ℕ → Type 0
HeadOk b v base w = (i : ℕ) → Decides b (Head (entry_of i v) base w)
