use Prim.Native.Nat.{ℕ, ◌<◌}
use Rattle.store.specs.Meaning.{cells_of}
use Rattle.store.specs.Checks.{CellsAt, nth}
use Rattle.checks.proofs.cells_ok.Given as goal

abbrev pub invariant-loop-c : goal.invariant-loop-c
invariant-loop-c l = (k : ℕ) → k < l.c → CellsAt l.fn.slots (nth l.fn.heads k) (cells_of l.committed k) (cells_of l.working k)
