-- `take_block` meets its contract: by the walk over the block, booking by booking; each has a byte or more and adds 64 to the records, so those of
-- 1,024 bytes fit. Assumes nothing.
use Rattle.std.proofs.Common.{refl, sym, ◌∙◌, length-take-le, rules}
use Rattle.text.specs.Calls.{wrote, refusal_of}
use Rattle.refusal.proofs.Outcomes.{no_length}
use Rattle.typed.proofs.Taking.{left_over, all_taken, walked, refused_there}
use Rattle.typed.proofs.take_block.Goals as goal

pub returns-then-goes_on-clause-takes_block : goal.returns-then-goes_on-clause-takes_block
returns-then-goes_on-clause-takes_block c =
    let args = c.args in
    let loop = c.loop-at in
    left_over args.input.now args.last args.first _ loop.at loop.place loop.invariant.4 c.booking_end-end.result c.booking_end-end.ensures loop.len
    (length-take-le loop.len loop.records (search rules)) (sym c.goes_on.ensures ∙ c.if-goes_on.true)

pub returns-in-Err-clause-takes_block : goal.returns-in-Err-clause-takes_block
returns-in-Err-clause-takes_block c =
    let args = c.args in
    let loop = c.loop-at in
    refused_there args.input.now args.last args.first loop.records loop.len loop.at loop.place loop.invariant.4 c.booking_end-end.result c.booking_end-end.ensures
    (sym c.goes_on.ensures ∙ c.if-goes_on.false) (search rules) (refusal_of c.in-Err.refused) _ _ c.in-Err.ensures (no_length c.in-Err.refused)

pub loop-at-preserved : goal.loop-at-preserved
loop-at-preserved c =
    let args = c.args in
    let loop = c.loop-at in (
      search rules,
      search rules,
      search rules,
      search rules,
      walked args.input.now args.last args.first loop.records loop.len loop.at loop.place loop.invariant.4 c.booking_end-end.result c.booking_end-end.ensures
          (sym c.goes_on.ensures ∙ c.if-goes_on.false) (search rules) (wrote c.in_default.field-0) _ _ c.in_default.ensures _ _ refl refl,
    )

pub returns-clause-takes_block : goal.returns-clause-takes_block
returns-clause-takes_block c =
    let loop = c.loop-at in
    all_taken c.args.input.now c.args.last c.args.first _ loop.at loop.place loop.invariant.4 loop.len (length-take-le loop.len loop.records (search rules)) (search rules)
