-- `happen` meets its contract: each way out is the call of its kind, or the refusal. Assumes nothing.
use mathlib.Core.Path.{ap, ◌∙◌}
use Rattle.event.specs.Kinds.{code_of}
use Rattle.event.proofs.Events.{by_kind, offers, confirms, made}
use Rattle.event.proofs.Events.{any_cells, offers_no_work, confirms_no_work, reads_no_work}
use Rattle.event.proofs.happen.Goals as goal

pub returns-in-Ok-Offer : goal.returns-in-Ok-Offer
returns-in-Ok-Offer c =
    let kind = c.in-Ok-Offer in
    made _ _ _ _ _ (offers _ kind.ensures.0 (kind.ensures.1 ∙ ap code_of kind.field-0-is)) (any_cells _ _ _ c.offer.result.answer _ (offers_no_work _) c.offer.ensures)

pub returns-in-Ok-Confirm : goal.returns-in-Ok-Confirm
returns-in-Ok-Confirm c =
    let kind = c.in-Ok-Confirm in
    made _ _ _ _ _ (confirms _ _ _ kind.ensures.0 (kind.ensures.1 ∙ ap code_of kind.field-0-is) c.word_at-id.ensures c.word_at-number.ensures)
    (any_cells _ _ _ c.confirm.result.answer _ (confirms_no_work _ _) c.confirm.ensures)

pub returns-in-Ok-Work : goal.returns-in-Ok-Work
returns-in-Ok-Work c =
    let kind = c.in-Ok-Work in
    made _ _ _ _ _ (by_kind _ 3 kind.ensures.0 (kind.ensures.1 ∙ ap code_of kind.field-0-is)) c.work.ensures

pub returns-in-Ok-Read : goal.returns-in-Ok-Read
returns-in-Ok-Read c =
    let kind = c.in-Ok-Read in
    made _ _ _ _ _ (by_kind _ 4 kind.ensures.0 (kind.ensures.1 ∙ ap code_of kind.field-0-is))
    (any_cells _ _ _ c.read-answer.result _ (reads_no_work _ _) c.read-answer.ensures)
