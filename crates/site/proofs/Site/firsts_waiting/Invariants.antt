use Prim.Native.Nat.{ℕ, ◌*◌, ◌<◌}
use mathlib.Core.Path.{◌≡◌}
use lib.ListN.{length, get_or}
use Rattle.store.specs.Checks.{nth}
use Rattle.store.specs.Steps.{WaitsFrom}
use Rattle.site.proofs.Site.firsts_waiting.Given as goal

abbrev pub invariant-loop-c : goal.invariant-loop-c
invariant-loop-c l =
    (length l.ends ≡ 16) × ((d : ℕ) → d < l.c → WaitsFrom (nth l.numbers) l.queue (136 * d) (get_or l.lens d 0) (get_or l.ends d 0))
