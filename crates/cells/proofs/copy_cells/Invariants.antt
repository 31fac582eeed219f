use Rattle.std.proofs.Common.{◌≡◌, length, take}
use Rattle.cells.proofs.copy_cells.Given as goal

abbrev pub invariant-loop-i : goal.invariant-loop-i
invariant-loop-i l = (take l.i l.to ≡ take l.i l.from) × (length l.to ≡ length l.initial.to)
