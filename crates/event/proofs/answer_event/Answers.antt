-- The event's line is that of its answer, whose cells are in no line. Assumes nothing.
use mathlib.Core.Path.{◌∙◌}
use Rattle.event.proofs.Events.{same_line}
use Rattle.event.proofs.answer_event.Goals as goal

pub returns : goal.returns
returns c =
    let happen = c.happen-reply in record { listed = record { answer = _; happened = happen.ensures; says = c.line_of.ensures.result_value ∙ same_line _ happen.result.answer _ }; len_bound = c.line_of.ensures.len_bound; rest = c.line_of.ensures.rest }
