use Rattle.std.proofs.Common.{◌≡◌, ℕ, ◌≤◌, List, length, take}
use Rattle.typed.specs.Taking.{Ran}
use Rattle.typed.proofs.run.Given as goal

abbrev pub invariant-loop : goal.invariant-loop
invariant-loop g l = (length l.input ≡ 1024) × (length l.records ≡ 65536) × (l.rest ≤ 1024) × (read : List ℕ) × (written : List ℕ) × Ran read written (take l.rest l.input) l.place
