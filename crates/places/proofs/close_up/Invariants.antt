use Prim.Native.Nat.{◌<◌, ◌≤◌}
use mathlib.Core.Path.{◌≡◌}
use lib.ListN.{length}
use Rattle.places.proofs.Shift.{shifted}
use Rattle.places.proofs.close_up.Given as goal

abbrev pub invariant-loop-i : goal.invariant-loop-i
invariant-loop-i l = (l.at ≤ l.i) × (l.i < l.end) × (length l.q ≡ length l.initial.q) × (l.q ≡ shifted l.initial.q l.at l.i)
