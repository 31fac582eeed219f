use mathlib.Core.Path.{◌≡◌}
use mathlib.Core.Bool.{true}
use Rattle.plain.specs.Sizes.{slot_count}
use Rattle.store.specs.Checks.{nth}
use Rattle.store.proofs.Pairs.{Clear, Passed}
use Rattle.checks.proofs.pairs_differ.Given as goal

abbrev pub invariant-loop-j : goal.invariant-loop-j
invariant-loop-j l = (l.differ ≡ true) × Clear (nth l.ids) l.i l.j × Clear (nth l.lines) l.i l.j

abbrev pub invariant-pairs : goal.invariant-pairs
invariant-pairs l = (l.differ ≡ true) × Passed (nth l.ids) slot_count l.i × Passed (nth l.lines) slot_count l.i
