-- Each arm is plain's rule for its code, and the cells that it uses are cells of the class. Assumes nothing.
use Rattle.std.proofs.Common.{◌≡◌, sym, arith, rules}
use Rattle.plain.specs.Ops as P
use Rattle.cells.proofs.Codes.{of_code}
use Rattle.cells.proofs.Ops.{facts}
use Rattle.cells.proofs.carry.Goals as goal

pub bounds-cells-k : goal.bounds-cells-k
bounds-cells-k c =
    let f = facts c.requires.1 in
    search rules

pub bounds-cells-k-in-Add : goal.bounds-cells-k-in-Add
bounds-cells-k-in-Add c =
    let f = facts c.requires.1 in
    search rules

pub bounds-cells-k-in-Add-2 : goal.bounds-cells-k-in-Add-2
bounds-cells-k-in-Add-2 c =
    let f = facts c.requires.1 in
    search rules

pub bounds-cells-k-in-Need : goal.bounds-cells-k-in-Need
bounds-cells-k-in-Need c =
    let f = facts c.requires.1 in
    search rules

pub give-requires : goal.give-requires
give-requires c =
    let f = facts c.requires.1 in
    let e : 4 ≡ c.args.op.code = of_code _ _ _ c.try_from.ensures c.in-Move.ensures in
    (omega arith, omega (arith, (f.second (sym e)).0))

pub returns-in-Put-clause-cells_value : goal.returns-in-Put-clause-cells_value
unfolding P.carry
returns-in-Put-clause-cells_value c =
    let e : 1 ≡ c.args.op.code = of_code _ _ _ c.try_from.ensures c.in-Put.ensures in
    simp (sym e)

pub returns-in-Add-clause-cells_value : goal.returns-in-Add-clause-cells_value
unfolding P.carry
returns-in-Add-clause-cells_value c =
    let e : 2 ≡ c.args.op.code = of_code _ _ _ c.try_from.ensures c.in-Add.ensures in
    simp (sym e, c.wrapping_add_u32.ensures.value)

pub returns-in-Need-clause-cells_value : goal.returns-in-Need-clause-cells_value
unfolding P.carry
returns-in-Need-clause-cells_value c =
    let e : 3 ≡ c.args.op.code = of_code _ _ _ c.try_from.ensures c.in-Need.ensures in
    simp (sym e)
