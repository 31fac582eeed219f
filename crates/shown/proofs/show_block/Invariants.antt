use Rattle.std.proofs.Common.{◌≡◌, ◌+◌, ◌*◌, ◌^◌, ◌<◌, ◌≤◌, length, take}
use Rattle.std.specs.Slice.Iter.{chunks_rest, chunks_size}
use Rattle.shown.specs.Showing.{records_of}
use Rattle.shown.proofs.Showing.{SoFar}
use Rattle.shown.proofs.show_block.Given as goal

abbrev pub invariant-loop-record : goal.invariant-loop-record
invariant-loop-record l = record {
  size : chunks_size l.record-iterator ≡ 64;
  room : 64 * l.len + 168 * length (chunks_rest l.record-iterator) ≤ 168 * 24576;
  long : length l.text ≡ 65536;
  place : l.place < 2 ^ 64;
  shown : SoFar (records_of l.input) l.first (take l.len l.text) l.place (records_of (chunks_rest l.record-iterator));
}
