-- The bytes that are handed over are the record of the request whose text it is. Assumes nothing.
use Rattle.std.proofs.Common.{refl, ap, ◌∙◌}
use Rattle.std.proofs.lemmas.Result.{err_from_is_err_and}
use Rattle.plain.specs.Record.{request}
use Rattle.slots.specs.Meaning.{request_of}
use Rattle.text.specs.Calls.{took, bad}
use Rattle.text.proofs.Encoding.{record_of}
use Rattle.text.proofs.read.Goals as goal

pub returns-in_err-slot : goal.returns-in_err-slot
returns-in_err-slot c =
    let p = err_from_is_err_and c.from_residual.result c.from_residual.ensures.1 in
    rw (p.1, p.2) (bad _ c.in_err-slot.ensures refl refl)

pub returns : goal.returns
returns c =
    let v = c.in_ok-slot.slot in
    let parsed = c.in_ok-slot.ensures in
    took _ (request_of v) (ap request c.record_of-bytes.ensures ∙ record_of v parsed.long parsed.new) parsed.stands c.hand_over.ensures
