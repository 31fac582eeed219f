use Rattle.std.proofs.Common.{◌≡◌, ℕ, ◌<◌, get_or}
use Rattle.plain.specs.Decides.{Decides}
use Rattle.cells.proofs.same_cells.Given as goal

abbrev pub invariant-loop-i : goal.invariant-loop-i
invariant-loop-i l = Decides l.same ((j : ℕ) → j < l.i → get_or l.a j 0 ≡ get_or l.b j 0)
