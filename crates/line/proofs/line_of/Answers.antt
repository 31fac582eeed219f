-- Each case's word and numbers are those of its answer. Assumes nothing.
use Prim.Native.Nat.{ℕ}
use mathlib.Core.Path.{◌≡◌}
use mathlib.Core.List.{List, []}
use Rattle.site.specs.declared.Answer.{Answer}
use Rattle.site.specs.Held.{answer_of}
use Rattle.line.specs.Text.{line_of}
use Rattle.line.proofs.line_of.Goals as goal

-- the line of an answer whose case is known
told : (place : ℕ) (a b : Answer) (t : List ℕ) → a ≡ b → t ≡ line_of place (answer_of b []) → t ≡ line_of place (answer_of a [])
told place a b t e h = rw e h

pub returns-in-Refused : goal.returns-in-Refused
returns-in-Refused c = record { result_value = told _ _ _ _ c.in-Refused.is c.whole.ensures.result_value; len_bound = c.whole.ensures.len_bound; rest = c.whole.ensures.rest }

pub returns-in-Queued : goal.returns-in-Queued
returns-in-Queued c = record { result_value = told _ _ _ _ c.in-Queued.is c.whole-in-Queued.ensures.result_value; len_bound = c.whole-in-Queued.ensures.len_bound; rest = c.whole-in-Queued.ensures.rest }

pub returns-in-Stepped : goal.returns-in-Stepped
returns-in-Stepped c = record { result_value = told _ _ _ _ c.in-Stepped.is c.whole-in-Stepped.ensures.result_value; len_bound = c.whole-in-Stepped.ensures.len_bound; rest = c.whole-in-Stepped.ensures.rest }

pub returns-in-Executed : goal.returns-in-Executed
returns-in-Executed c = record { result_value = told _ _ _ _ c.in-Executed.is c.whole-in-Executed.ensures.result_value; len_bound = c.whole-in-Executed.ensures.len_bound; rest = c.whole-in-Executed.ensures.rest }

pub returns-in-Committed : goal.returns-in-Committed
returns-in-Committed c = record { result_value = told _ _ _ _ c.in-Committed.is c.whole-in-Committed.ensures.result_value; len_bound = c.whole-in-Committed.ensures.len_bound; rest = c.whole-in-Committed.ensures.rest }

pub returns-in-Waiting : goal.returns-in-Waiting
returns-in-Waiting c = record { result_value = told _ _ _ _ c.in-Waiting.is c.whole-in-Waiting.ensures.result_value; len_bound = c.whole-in-Waiting.ensures.len_bound; rest = c.whole-in-Waiting.ensures.rest }

pub returns-in-Value : goal.returns-in-Value
returns-in-Value c = record { result_value = told _ _ _ _ c.in-Value.is c.whole-in-Value.ensures.result_value; len_bound = c.whole-in-Value.ensures.len_bound; rest = c.whole-in-Value.ensures.rest }

pub returns-in-ToDo : goal.returns-in-ToDo
returns-in-ToDo c = record { result_value = told _ _ _ _ c.in-ToDo.is c.whole-in-ToDo.ensures.result_value; len_bound = c.whole-in-ToDo.ensures.len_bound; rest = c.whole-in-ToDo.ensures.rest }

pub returns-in-Unconfirmed : goal.returns-in-Unconfirmed
returns-in-Unconfirmed c = record { result_value = told _ _ _ _ c.in-Unconfirmed.is c.whole-in-Unconfirmed.ensures.result_value; len_bound = c.whole-in-Unconfirmed.ensures.len_bound; rest = c.whole-in-Unconfirmed.ensures.rest }

pub returns-in-Begun : goal.returns-in-Begun
returns-in-Begun c = record { result_value = told _ _ _ _ c.in-Begun.is c.whole-in-Begun.ensures.result_value; len_bound = c.whole-in-Begun.ensures.len_bound; rest = c.whole-in-Begun.ensures.rest }

pub returns-in-Entry : goal.returns-in-Entry
returns-in-Entry c = record { result_value = told _ _ _ _ c.in-Entry.is c.whole-in-Entry.ensures.result_value; len_bound = c.whole-in-Entry.ensures.len_bound; rest = c.whole-in-Entry.ensures.rest }
