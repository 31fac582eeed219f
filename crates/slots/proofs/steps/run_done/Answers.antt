-- The cells are what the operations so far make of the committed ones; one that declines ends it. Assumes nothing.
use native.Mathlib.Omega.{arith}
use native.Mathlib.Numerals.{add-one}
use mathlib.Core.Path.{◌∙◌}
use borrow.Author.Rules.{rules}
use borrow.Author.Tests.{ne_eqb}
use Rattle.slots.proofs.Shape.{seven}
use Rattle.slots.proofs.Running.{one_more, stays_declined}
use Rattle.slots.proofs.steps.run_done.Goals as goal

pub returns-then-ran-ne0 : goal.returns-then-ran-ne0
returns-then-ran-ne0 c =
    let carry = c.carry_at in
    let loop = c.loop-k in
    let m = carry.result in
    let r = ne_eqb m 0 c.if-ran-ne0.true in
    let v = c.args.v in
    let base = c.args.from.now in
    let good = seven v _ c.well_formed.0 in
    let more = one_more v good c.requires.1 base loop.k (omega arith) loop.ran.cells loop.invariant.0 in
    let n = stays_declined v good c.requires.1 base loop.k (omega arith) v.done m (omega arith) (more ∙ carry.ensures.cells_value ∙ rw r) in
    record { mark_is = rw n; cells = rw n c.copy_cells-then-ran-ne0.ensures }

pub loop-k-preserved : goal.loop-k-preserved
loop-k-preserved c =
    let carry = c.carry_at in
    let loop = c.loop-k in
    let v = c.args.v in
    let base = c.args.from.now in
    let good = seven v _ c.well_formed.0 in
    let more = one_more v good c.requires.1 base loop.k (omega arith) loop.ran.cells loop.invariant.0 in
    (rw add-one (more ∙ carry.ensures.cells_value ∙ rw c.if-ran-ne0.false), search rules, c.if-ran-ne0.false)
