use Prim.Native.Nat.{ℕ, ◌<◌}
use mathlib.Core.Path.{◌≡◌}
use Rattle.plain.specs.Decides.{Decides}
use Rattle.cells.specs.Ops.{no_op}
use lib.ListN.{get_or}
use Rattle.slots.proofs.ops_zero.Given as goal

abbrev pub invariant-loop-op : goal.invariant-loop-op
invariant-loop-op l = Decides l.zero ((j : ℕ) → j < l.op-index → get_or l.op-items j no_op ≡ no_op)
