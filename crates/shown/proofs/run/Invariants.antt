use Rattle.std.proofs.Common.{◌≡◌, ℕ, List, length}
use Rattle.shown.specs.Showing.{Ran}
use Rattle.shown.proofs.run.Given as goal

abbrev pub invariant-loop : goal.invariant-loop
invariant-loop g l = (length l.input ≡ 24576) × (length l.text ≡ 65536) × (read : List ℕ) × (written : List ℕ) × Ran read written l.place
