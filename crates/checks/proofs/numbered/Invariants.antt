use Prim.Native.Nat.{◌≤◌}
use mathlib.Core.Path.{◌≡◌}
use Rattle.store.specs.Checks.{nth, numbered}
use Rattle.checks.proofs.numbered.Given as goal

abbrev pub invariant-loop-line : goal.invariant-loop-line
invariant-loop-line l = (l.n ≤ l.line-index) × (l.n ≡ numbered (nth l.lines) l.line-index)
