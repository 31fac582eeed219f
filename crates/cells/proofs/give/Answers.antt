-- By what the two tests came to: both pass exactly where plain's rule moves the amount. Assumes nothing.
use Rattle.std.proofs.Common.{◌+◌, get_or, arith, le-ltb, lt-ltb, le-leb}
use borrow.Author.Tests.{lt-leb}
use Rattle.plain.specs.Sizes.{word}
use Rattle.plain.specs.Ops as P
use Rattle.cells.proofs.give.Goals as goal

pub returns-then-cells-k-clause-cells_value : goal.returns-then-cells-k-clause-cells_value
unfolding P.carry
returns-then-cells-k-clause-cells_value c =
    let args = c.args in
    let l = args.cells.now in
    rw (lt-leb args.amount (get_or l args.k 0) (omega arith))

pub returns-then-amount-cells-clause-cells_value : goal.returns-then-amount-cells-clause-cells_value
unfolding P.carry
returns-then-amount-cells-clause-cells_value c =
    let args = c.args in
    let l = args.cells.now in
    rw (le-leb args.amount (get_or l args.k 0) (omega arith), le-ltb (get_or l args.j 0 + args.amount) word (omega arith))

pub returns-clause-cells_value : goal.returns-clause-cells_value
unfolding P.carry
returns-clause-cells_value c =
    let args = c.args in
    let l = args.cells.now in
    rw (le-leb args.amount (get_or l args.k 0) (omega arith), lt-ltb (get_or l args.j 0 + args.amount) word (omega arith))
