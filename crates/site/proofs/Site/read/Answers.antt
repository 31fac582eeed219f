-- `Site::read` meets its contract: each way out is a row of the table, or the cell. Assumes nothing.
use native.Mathlib.Omega.{arith}
use Rattle.store.proofs.Promise.{called_did}
use Rattle.site.specs.Held.{state_of}
use Rattle.site.proofs.Shape.{shaped}
use Rattle.store.proofs.Asking.{read_class, read_cell, read_value}
use Rattle.site.proofs.Site.read.Goals as goal

pub returns-then-class-ge-CLASSES : goal.returns-then-class-ge-CLASSES
returns-then-class-ge-CLASSES c =
    let the-args = c.args in
    let o = c.in_default.ensures in
    rw c.number-then-class-ge-CLASSES.ensures (called_did _ _ _ _ o.0 o.1 (read_class (state_of the-args.self the-args.committed.now the-args.working.now) (shaped the-args.self _
    c.well_formed.0) o.0 o.1 the-args.class the-args.cell (omega (arith, c.if-class-ge-CLASSES.true))))

pub returns-then-cell-ge-CELLS : goal.returns-then-cell-ge-CELLS
returns-then-cell-ge-CELLS c =
    let the-args = c.args in
    let o = c.in_default.ensures in
    rw c.number-then-cell-ge-CELLS.ensures (called_did _ _ _ _ o.0 o.1 (read_cell (state_of the-args.self the-args.committed.now the-args.working.now) (shaped the-args.self _
    c.well_formed.0) o.0 o.1 the-args.class the-args.cell (omega (arith, c.if-class-ge-CLASSES.false)) (omega (arith, c.if-cell-ge-CELLS.true))))

pub bounds-committed-at : goal.bounds-committed-at
bounds-committed-at c =
    let o = c.in_default.ensures in
    omega (arith, o.0.0, c.if-class-ge-CLASSES.false, c.if-cell-ge-CELLS.false)

pub returns : goal.returns
returns c =
    let the-args = c.args in
    let o = c.in_default.ensures in
    called_did _ _ _ _ o.0 o.1 (read_value (state_of the-args.self the-args.committed.now the-args.working.now) (shaped the-args.self _
    c.well_formed.0) o.0 o.1 the-args.class the-args.cell (omega (arith, c.if-class-ge-CLASSES.false)) (omega (
      arith,
      c.if-cell-ge-CELLS.false,
    )))
