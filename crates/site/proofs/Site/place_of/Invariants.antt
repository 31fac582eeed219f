use Prim.Native.Nat.{ℕ, ◌+◌, ◌*◌, ◌<◌}
use mathlib.Core.Path.{◌≡◌}
use lib.ListN.{get_or}
use Rattle.site.proofs.Site.place_of.Given as goal

abbrev pub invariant-loop-p : goal.invariant-loop-p
invariant-loop-p l = ((k : ℕ) → k < l.p → get_or l.self.queue (136 * l.c + k) 0 ≡ l.i → ⊥)
