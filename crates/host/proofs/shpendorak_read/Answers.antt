-- A refusal and a value are told here, as `tell` would. Assumes nothing.
use mathlib.Core.Path.{refl}
use mathlib.Core.List.{[]}
use Rattle.host.proofs.Told.{known_answer}
use Rattle.host.proofs.shpendorak_read.Goals as goal

pub returns-in-Refused : goal.returns-in-Refused
returns-in-Refused c =
    let read = c.read-given in
    record { answer = _; promised = read.ensures; says = known_answer _ [] _ _ _ c.in-Refused.is c.numbers_of_refusal.ensures }

pub returns-in-Value : goal.returns-in-Value
returns-in-Value c =
    let read = c.read-given in
    record { answer = _; promised = read.ensures; says = known_answer _ [] _ _ _ c.in-Value.is refl }
