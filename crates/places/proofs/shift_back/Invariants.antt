use Prim.Native.Nat.{◌≤◌}
use mathlib.Core.Path.{◌≡◌}
use lib.ListN.{length, get_or}
use Rattle.places.specs.Moves.{moved_up}
use Rattle.places.proofs.shift_back.Given as goal

abbrev pub invariant-loop-i : goal.invariant-loop-i
invariant-loop-i l = (l.to ≤ l.i) × (l.i ≤ l.from) × (length l.q ≡ length l.initial.q) × (l.q ≡ moved_up (get_or l.initial.q l.i 0) l.initial.q l.from l.i)
