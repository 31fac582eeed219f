use Rattle.std.proofs.Common.{◌≡◌, ◌^◌, ◌<◌, length, take}
use Rattle.std.specs.Slice.Iter.{chunks_rest, chunks_size}
use Rattle.site.specs.Held.{state_of}
use Rattle.drive.specs.Listing.{events_of}
use Rattle.drive.proofs.Listing.{SoFar, Room}
use Rattle.drive.proofs.list_block.Given as goal

abbrev pub invariant-loop-event : goal.invariant-loop-event
invariant-loop-event l = record {
  size : chunks_size l.event-iterator ≡ 72;
  room : Room l.len (length (chunks_rest l.event-iterator));
  text : length l.text ≡ 65536;
  committed : length l.committed ≡ length l.initial.committed;
  working : length l.working ≡ length l.initial.working;
  place : l.place < 2 ^ 64;
  listed : SoFar (state_of l.initial.site l.initial.committed l.initial.working) l.first (events_of l.input) (state_of l.site l.committed l.working) l.place
      (take l.len l.text) (events_of (chunks_rest l.event-iterator));
}
