-- Line after line is read, and the first that is not is the first bad one. Assumes nothing.
use Rattle.std.proofs.Common.{ap, arith, rules}
use Rattle.slots.specs.declared.Slot.{Slot}
use Rattle.slots.proofs.Free.{is_free}
use Rattle.text.proofs.Pieces.{no_op_line}
use Rattle.text.proofs.Standing.{bad_head}
use Rattle.text.proofs.Parsing.{begun, one_more, bad_line, no_line, all_read}
use Rattle.text.proofs.parse.parse.Goals as goal

pub returns-in_default : goal.returns-in_default
returns-in_default c = bad_head _ c.in_default.ensures.head_at

pub loop-at-init : goal.loop-at-init
loop-at-init c =
    begun _ _ _ _ _ c.in-Some.ensures.head_at c.in-Some.ensures.next_in_bounds (ap (λ (v : Slot). v.ops) (is_free _ c.default-free.ensures))

pub returns-then-k-eq-MOST_OPS : goal.returns-then-k-eq-MOST_OPS
returns-then-k-eq-MOST_OPS c = bad_line _ _ _ _ _ _ c.loop-at.invariant (search rules) (λ l. absurd (omega (arith, c.if-k-eq-MOST_OPS.true)))

pub returns-in_default-op_at : goal.returns-in_default-op_at
returns-in_default-op_at c = bad_line _ _ _ _ _ _ c.loop-at.invariant (search rules) (λ l. no_op_line _ c.in_default-op_at.ensures.op_line_at)

pub loop-at-preserved : goal.loop-at-preserved
loop-at-preserved c =
    let line = c.in-Some-op_at.ensures in
    one_more _ _ _ _ _ _ c.loop-at.invariant _ _ (search rules) line.op_line_at line.next_in_bounds

pub returns-then-k-eq0 : goal.returns-then-k-eq0
returns-then-k-eq0 c = no_line _ _ _ _ _ _ c.loop-at.invariant (search rules) c.if-k-eq0.true

pub returns : goal.returns
returns c = all_read _ _ _ _ _ _ c.loop-at.invariant (search rules) (omega arith) _ (is_free _ c.default-free.ensures)
