-- The part that is copied is the part of the class. Assumes nothing.
use Rattle.std.proofs.Common.{◌≡◌, ℕ, ◌+◌, ◌-◌, arith}
use Rattle.plain.specs.Sizes.{cell_count}
use Rattle.cells.proofs.copy_class.Goals as goal

part-size : (a : ℕ) → a + cell_count - a ≡ cell_count
part-size a = omega arith

pub returns : goal.returns
returns c = rw (c.copy_cells.ensures, part-size)
