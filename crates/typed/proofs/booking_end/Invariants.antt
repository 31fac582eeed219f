use Rattle.std.proofs.Common.{ℕ, ◌<◌}
use Rattle.typed.specs.Bookings.{Begins}
use Rattle.typed.proofs.booking_end.Given as goal

abbrev pub invariant-loop-i : goal.invariant-loop-i
invariant-loop-i l = (j : ℕ) → l.at < j → j < l.i → Begins l.input j → ⊥
