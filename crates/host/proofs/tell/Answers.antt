-- Each case's numbers are those of its answer. Assumes nothing.
use mathlib.Core.Path.{refl}
use mathlib.Core.List.{[]}
use Rattle.host.proofs.Told.{known_answer}
use Rattle.host.proofs.tell.Goals as goal

pub returns-in-Refused : goal.returns-in-Refused
returns-in-Refused c = known_answer _ [] _ _ _ c.in-Refused.is c.numbers_of_refusal.ensures

pub returns-in-Queued : goal.returns-in-Queued
returns-in-Queued c = known_answer _ [] _ _ _ c.in-Queued.is refl

pub returns-in-Stepped : goal.returns-in-Stepped
returns-in-Stepped c = known_answer _ [] _ _ _ c.in-Stepped.is refl

pub returns-in-Executed : goal.returns-in-Executed
returns-in-Executed c = known_answer _ [] _ _ _ c.in-Executed.is refl

pub returns-in-Committed : goal.returns-in-Committed
returns-in-Committed c = known_answer _ [] _ _ _ c.in-Committed.is refl

pub returns-in-Waiting : goal.returns-in-Waiting
returns-in-Waiting c = known_answer _ [] _ _ _ c.in-Waiting.is refl

pub returns-in-Value : goal.returns-in-Value
returns-in-Value c = known_answer _ [] _ _ _ c.in-Value.is refl

pub returns-in-ToDo : goal.returns-in-ToDo
returns-in-ToDo c = known_answer _ [] _ _ _ c.in-ToDo.is refl

pub returns-in-Unconfirmed : goal.returns-in-Unconfirmed
returns-in-Unconfirmed c = known_answer _ [] _ _ _ c.in-Unconfirmed.is refl

pub returns-in-Begun : goal.returns-in-Begun
returns-in-Begun c = known_answer _ [] _ _ _ c.in-Begun.is refl

pub returns-in-Entry : goal.returns-in-Entry
returns-in-Entry c = known_answer _ [] _ _ _ c.in-Entry.is refl
