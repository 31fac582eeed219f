-- `run` meets its contract: what was read so far led from the fresh site to the one held, and the place is the next. Assumes nothing.
use Rattle.std.proofs.Common.{◌≡◌, ◌*◌, length, take, arith, length-take, rules}
use Rattle.event.specs.Event.{event_size}
use Rattle.drive.proofs.Listing.{none_read, ran_to, whole_on}
use Rattle.drive.proofs.run.Goals as goal

pub loop-init : goal.loop-init
loop-init g c = record { input = search rules; text = search rules; committed = search rules; working = search rules; ran = none_read _ c.requires }

pub loop-preserved : goal.loop-preserved
loop-preserved g c =
    let block = c.list_block-block in
    let read = take c.whole-n.result c.fill-got.new.buf in
    let full : length read ≡ event_size * 450 = omega (arith, length-take c.whole-n.result c.fill-got.new.buf) in
    record {
      input = search rules;
      text = search rules;
      committed = search rules;
      working = search rules;
      ran = whole_on _ _ c.loop.place c.loop.invariant.ran read _ _ _ block.ensures.lists block.ensures.place_value 450 full;
    }

pub returns-then-not-write_lines : goal.returns-then-not-write_lines
returns-then-not-write_lines g c =
    let block = c.list_block-block in
    ran_to _ _ c.loop.place c.loop.invariant.ran (take c.whole-n.result c.fill-got.new.buf) _ _ _ block.ensures.lists block.ensures.place_value

pub returns-then-n-lt-BLOCK : goal.returns-then-n-lt-BLOCK
returns-then-n-lt-BLOCK g c =
    let block = c.list_block-block in
    ran_to _ _ c.loop.place c.loop.invariant.ran (take c.whole-n.result c.fill-got.new.buf) _ _ _ block.ensures.lists block.ensures.place_value
