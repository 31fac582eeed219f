-- After some turns the lines of as many operations stand behind the first line. Assumes nothing.
use Rattle.std.proofs.Common.{◌≡◌, ℕ, ◌<◌, List, ◌++◌, take, arith, rules}
use lib.Seq.{take_all, get_or-take, length-take-le}
use Rattle.cells.specs.Ops.{no_op}
use Rattle.slots.specs.Meaning.{request_of}
use Rattle.slots.specs.declared.Slot.{Slot}
use Rattle.slots.proofs.Shape.{seven}
use Rattle.slots.proofs.Records.{held}
use Rattle.text.specs.Text.{head_line, joined, text_of}
use Rattle.text.proofs.Forms.{next_put, meant_line, meant_lines}
use Rattle.text.proofs.lines.put_text.Goals as goal

-- all lines are the text
whole : (v : Slot) (t : List ℕ) → t ≡ head_line v.id v.class ++ joined meant_line (take v.count v.ops) → t ≡ text_of (request_of v)
unfolding text_of
whole v t h = rw (meant_lines (take v.count v.ops)) at h

pub put_head-at-requires : goal.put_head-at-requires
put_head-at-requires c =
    let args = c.args in
    ((held args.slot (seven args.slot _ c.well_formed.1.0) c.requires).class, search rules)

pub put_op-at-requires-clause-op_ok : goal.put_op-at-requires-clause-op_ok
put_op-at-requires-clause-op_ok c =
    let v = c.args.slot in
    let i = c.loop-op.op-index in
    let ops = seven v _ c.well_formed.1.0 in
    let few : i < v.count = omega (arith, c.loop-op-test.true, length-take-le v.count v.ops (omega (arith, c.requires.count))) in
    rw get_or-take (((held v ops c.requires).ops i (omega (arith, c.requires.count))).within few)

pub loop-op-preserved : goal.loop-op-preserved
loop-op-preserved c = record {
  at_most = omega (arith, c.put_op-at.ensures.upper_bound);
  long = search rules;
  stands = next_put meant_line _ _ (head_line c.args.slot.id c.args.slot.class) (take c.args.slot.count c.args.slot.ops) c.loop-op.op-index no_op c.loop-op-test.true
      c.loop-op.invariant.stands c.put_op-at.ensures.to_after;
}

pub returns-clause-to_after : goal.returns-clause-to_after
returns-clause-to_after c =
    whole c.args.slot _ (rw (take_all c.loop-op.op-index (take c.args.slot.count c.args.slot.ops) c.loop-op-test.false) at c.loop-op.invariant.stands)
