-- Document 01's number of each refusal. Assumes nothing.
use Rattle.std.specs.Prelude.{ℕ, Option, Some, None}
use Rattle.site.specs.declared.refusal.Refusal.{Refusal}
use Rattle.site.specs.declared.refusal.Refusal.TheVariants as r

abbrev pub number_of : Refusal → ℕ
number_of r.WrongCells = 1
number_of r.Unsound = 2
number_of r.NoRecord = 3
number_of r.IdQueued = 4
number_of r.SlotsFull = 5
number_of r.NumbersUsedUp = 6
number_of r.OutOfTurn = 7
number_of r.NotQueued = 8
number_of r.ConfirmedAlready = 9
number_of r.NoSuchClass = 10
number_of r.NothingToDo = 11
number_of r.NoSuchCell = 12
number_of r.BadEvent = 13
number_of r.IdKept = 14
number_of r.NoClassNamed = 17
number_of r.QueriesOpen = 18
number_of r.QueriesUsedUp = 24

-- the number where there is a refusal, else 0
abbrev pub number_or_none : Option Refusal → ℕ
number_or_none None = 0
number_or_none (Some r) = number_of r
