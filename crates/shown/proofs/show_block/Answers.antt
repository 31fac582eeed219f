-- `show_block` meets its contract: by the walk over the input, piece by piece; each adds at most 168 bytes to the text, and 384 of them fit.
-- Assumes nothing.
use Rattle.std.proofs.Common.{length, ap, ◌∙◌, length-append, length-take-le, arith, rules}
use Rattle.std.specs.Slice.Iter.{chunks_rest}
use Rattle.shown.specs.Showing.{records_of}
use Rattle.shown.proofs.Showing.{walked, refused_there, whole_record, comes_next, all_shown}
use Rattle.shown.proofs.show_block.Goals as goal

pub returns-in-Err-clause-shows : goal.returns-in-Err-clause-shows
returns-in-Err-clause-shows c =
    let loop = c.loop-record in
    let cut = c.in-Some.ensures.steps.1 in
    let next = comes_next _ _ _ _ loop.invariant.size cut.0 cut.1 cut.2 in
    refused_there (records_of c.args.input.now) c.args.first _ _ loop.place _ _ c.in-Err.refused c.in-Err.ensures.shows_one loop.invariant.place
    (rw next at loop.invariant.shown)

pub loop-record-preserved : goal.loop-record-preserved
loop-record-preserved c =
    let loop = c.loop-record in
    let cut = c.in-Some.ensures.steps.1 in
    let next = comes_next _ _ _ _ loop.invariant.size cut.0 cut.1 cut.2 in
    let one = c.in-Ok.ensures.shows_one in
    let whole = whole_record (records_of c.args.input.now) c.args.first _ _ loop.place _ (records_of (chunks_rest c.next.new.self)) _ one in
    record {
      size = c.in-Some.ensures.steps.0 ∙ loop.invariant.size;
      room = omega (
        arith,
        whole,
        ap length cut.0,
        length-append c.in-Some.record.now (chunks_rest c.next.new.self),
        c.in-Ok.ensures.len_bound,
        loop.invariant.room,
      );
      long = search rules;
      place = search rules;
      shown = walked (records_of c.args.input.now) c.args.first _ _ loop.place _ _ _ one (rw next at loop.invariant.shown);
    }

pub returns-clause-shows : goal.returns-clause-shows
returns-clause-shows c =
    let loop = c.loop-record in
    all_shown (records_of c.args.input.now) c.args.first _ loop.place _ loop.len loop.invariant.place
    (length-take-le loop.len loop.text (omega (arith, loop.invariant.room, loop.invariant.long))) c.in-None.ensures.steps.1.0 loop.invariant.shown
