-- Each turn decides the rule of its class: where the queue is empty, that the cells are equal, and else that of its head, which holds a record.
-- Assumes nothing.
use native.Mathlib.Omega.{arith}
use mathlib.Core.Path.{sym, ◌∙◌}
use borrow.Author.Count.{below_more}
use Rattle.plain.proofs.Deciding.{decides_false}
use Rattle.store.specs.Checks.{nth}
use Rattle.store.proofs.Cells.{lent_long, at_empty, at_head}
use Rattle.checks.proofs.cells_ok.Goals as goal
use Rattle.checks.proofs.cells_ok.Goals.{else-head-ge-SLOT_LIMIT+else-not-head_ok, then-head-ge-SLOT_LIMIT+else-not-same_cells}

pub same_cells-requires : goal.same_cells-requires
same_cells-requires c =
    let i· = c.loop-c.c in
    let pre· = c.requires in
    lent_long c.args.working.now i· pre·.committed_len.1 (omega arith) ∙ sym (lent_long c.args.committed.now i· pre·.committed_len.0 (omega arith))

pub returns-then-not-same_cells : goal.returns-then-not-same_cells
returns-then-not-same_cells c =
    let i· = c.loop-c.c in
    let d = at_empty c.args.slots (nth c.args.heads i·) i· c.args.committed.now c.args.working.now _ c.if-head-ge-SLOT_LIMIT.true c.same_cells.ensures in
    decides_false (λ h. d.no c.if-not-same_cells.true (h i· (omega arith)))

pub returns-then-not-head_ok : goal.returns-then-not-head_ok
returns-then-not-head_ok c =
    let i· = c.loop-c.c in
    let d = at_head c.args.slots (nth c.args.heads i·) i· c.args.committed.now c.args.working.now _ c.if-head-ge-SLOT_LIMIT.false c.head_ok.ensures in
    decides_false (λ h. d.no c.if-not-head_ok.true (h i· (omega arith)))

pub loop-c-preserved : goal.loop-c-preserved
loop-c-preserved c =
    let l· = c.args.slots in
    let i· = c.loop-c.c in
    let h· = nth c.args.heads i· in
    let base = c.args.committed.now in
    let wrk = c.args.working.now in
    below_more _ _ c.loop-c.invariant (elim c.if-head-ge-SLOT_LIMIT.branch [ then-head-ge-SLOT_LIMIT+else-not-same_cells t ↦ (at_empty l· h· i· base wrk _ t.if-head-ge-SLOT_LIMIT.true t.same_cells.ensures).yes t.if-not-same_cells.false | else-head-ge-SLOT_LIMIT+else-not-head_ok t ↦ (at_head l· h· i· base wrk _ t.if-head-ge-SLOT_LIMIT.false t.head_ok.ensures).yes t.if-not-head_ok.false ])
