-- `list_block` meets its contract: by the walk over the block, event by event; each adds at most 144 bytes to the text, and 450 of them fit.
-- Assumes nothing.
use Rattle.std.proofs.Common.{◌∙◌, length, refl, ap, arith, rules}
use Rattle.std.specs.Slice.Iter.{chunks_rest}
use Rattle.site.specs.Held.{state_of}
use Rattle.drive.specs.Listing.{events_of}
use Rattle.drive.proofs.Listing.{one_more, ended, counted, comes_next, none_left, room_on}
use Rattle.drive.proofs.list_block.Goals as goal

pub loop-event-preserved : goal.loop-event-preserved
loop-event-preserved c =
    let args = c.args in
    let loop = c.loop-event in
    let listed = c.list_event-listed in
    let cut = c.in-Some.ensures.steps.1 in
    let next = comes_next _ _ _ _ loop.invariant.size cut.0 cut.1 cut.2 in
    record {
      size = c.in-Some.ensures.steps.0 ∙ loop.invariant.size;
      room = room_on loop.len listed.result.len _ c.in-Some.event.now (chunks_rest c.next.new.self) _ loop.invariant.size (ap length cut.0) cut.1 cut.2 listed.ensures.len_bound loop.invariant.room;
      text = search rules;
      committed = search rules;
      working = search rules;
      place = search rules;
      listed = one_more (state_of args.site args.committed.now args.working.now) args.first (events_of args.input.now) (state_of loop.site loop.committed loop.working) loop.place _ _ _ _ _ _ refl listed.ensures.lists_one (rw next at loop.invariant.listed);
    }

pub returns : goal.returns
returns c =
    let args = c.args in
    let loop = c.loop-event in
    let none = none_left _ c.in-None.ensures.steps.1.0 in
    let all = rw none at loop.invariant.listed in
    record {
      lists = ended (state_of args.site args.committed.now args.working.now) args.first (events_of args.input.now) (state_of loop.site loop.committed loop.working) loop.place _ all;
      place_value = counted (state_of args.site args.committed.now args.working.now) args.first (events_of args.input.now) (state_of loop.site loop.committed loop.working) loop.place _ loop.invariant.place all;
      len_bound = omega (arith, loop.invariant.room.most);
    }
