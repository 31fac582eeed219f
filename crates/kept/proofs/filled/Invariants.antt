use Prim.Native.Nat.{ℕ, ◌<◌}
use Rattle.kept.proofs.Places.{PlaceFilled}
use Rattle.kept.proofs.filled.Given as goal

abbrev pub invariant-loop-p : goal.invariant-loop-p
invariant-loop-p l = (k : ℕ) → k < l.p → PlaceFilled l.confirmations l.kept k
