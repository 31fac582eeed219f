use Rattle.std.proofs.Common.{◌≡◌, ◌≤◌, ◌+◌, ◌*◌, ◌++◌, take, length}
use Rattle.text.specs.Text.{head_line, joined}
use Rattle.text.proofs.Forms.{meant_line}
use Rattle.text.proofs.lines.put_text.Given as goal

abbrev pub invariant-loop-op : goal.invariant-loop-op
invariant-loop-op l = record {
  at_most : l.at ≤ 14 + 22 * l.op-index;
  long : length l.to ≡ 168;
  stands : take l.at l.to ≡ head_line l.fn.slot.id l.fn.slot.class ++ joined meant_line (take l.op-index l.op-items);
}
