use Prim.Native.Nat.{ℕ, ◌<◌}
use mathlib.Core.Path.{◌≡◌}
use mathlib.Core.Bool.{false, not}
use lib.Dec.{eqb}
use lib.ListN.{get_or}
use Rattle.usedmap.specs.Flags.{used_of}
use Rattle.store.specs.Checks.{nth}
use Rattle.checks.proofs.map_agrees.Given as goal

abbrev pub invariant-loop-k : goal.invariant-loop-k
invariant-loop-k l = (j : ℕ) → j < l.k → get_or (used_of l.map.lo l.map.hi) j false ≡ not (eqb (nth l.ids j) 0)
