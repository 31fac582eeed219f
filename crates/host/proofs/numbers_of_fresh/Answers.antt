-- Nine where nothing was refused, else the refusal. Assumes nothing.
use mathlib.Core.Path.{◌≡◌, refl, sym, ap, ◌∙◌}
use Rattle.std.proofs.Common.{Option}
use Rattle.plain.specs.Steps.{refused}
use Rattle.site.specs.declared.refusal.Refusal.{Refusal}
use Rattle.site.specs.declared.refusal.Refusal.TheVariants as r
use Rattle.site.specs.Refusals.{number_of, number_or_none}
use Rattle.host.specs.Told.{told, told_fresh}
use Rattle.host.proofs.numbers_of_fresh.Goals as goal

-- no refusal has the number 0
turned-away : (e : Refusal) → told 0 (refused (number_of e)) ≡ told_fresh (number_of e)
turned-away r.WrongCells = refl
turned-away r.Unsound = refl
turned-away r.NoRecord = refl
turned-away r.IdQueued = refl
turned-away r.SlotsFull = refl
turned-away r.NumbersUsedUp = refl
turned-away r.OutOfTurn = refl
turned-away r.NotQueued = refl
turned-away r.ConfirmedAlready = refl
turned-away r.NoSuchClass = refl
turned-away r.NothingToDo = refl
turned-away r.NoSuchCell = refl
turned-away r.BadEvent = refl
turned-away r.IdKept = refl
turned-away r.NoClassNamed = refl
turned-away r.QueriesOpen = refl
turned-away r.QueriesUsedUp = refl

pub returns-in-None : goal.returns-in-None
returns-in-None c = sym (ap (λ (o : Option Refusal). told_fresh (number_or_none o)) c.in-None.is)

pub returns-in-Some : goal.returns-in-Some
returns-in-Some c =
    (rw c.number.ensures at c.numbers_of_refusal.ensures) ∙ turned-away c.in-Some.refusal ∙ sym (ap (λ (o : Option Refusal). told_fresh (number_or_none o)) c.in-Some.is)
