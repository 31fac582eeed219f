use Rattle.std.proofs.Common.{◌≡◌, ◌+◌, ◌*◌, ◌++◌, take, length}
use Rattle.text.specs.Text.{joined}
use Rattle.text.specs.Pieces.{bytes_of_head, bytes_of_op}
use Rattle.text.proofs.encode.record_of.Given as goal

abbrev pub invariant-loop-op : goal.invariant-loop-op
invariant-loop-op l = record {
  at_is : l.at ≡ 8 + 8 * l.op-index;
  long : length l.bytes ≡ 64;
  stands : take l.at l.bytes ≡ bytes_of_head l.fn.slot.id l.fn.slot.class l.fn.slot.count ++ joined bytes_of_op (take l.op-index l.op-items);
}
