use Prim.Native.Nat.{ℕ, ◌<◌}
use mathlib.Core.Path.{◌≡◌}
use mathlib.Core.Bool.{true, not}
use lib.Dec.{eqb}
use Rattle.store.specs.Checks.{MatchesAll, nth}
use Rattle.kept.proofs.Seen.all_match.Given as goal

abbrev pub invariant-loop-i : goal.invariant-loop-i
invariant-loop-i l =
    (k : ℕ) → k < l.i → not (eqb (nth l.ids k) 0) ≡ true → MatchesAll l.confirmations l.self.kept (nth l.numbers k) (nth l.ids k)
