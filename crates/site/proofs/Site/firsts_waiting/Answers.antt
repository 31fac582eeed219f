-- `Site::firsts_waiting` meets its contract: each turn finds the first waiting request of one class. Assumes nothing.
use Prim.Native.Nat.{ℕ, ◌*◌, ◌<◌}
use mathlib.Core.Path.{subst}
use native.Mathlib.Omega.{arith}
use lib.ListN.{get_or}
use Rattle.store.specs.Steps.{WaitsFrom}
use Rattle.site.proofs.Site.firsts_waiting.Goals as goal

pub returns : goal.returns
returns c =
    let the-args = c.args in
    let loop· = c.loop-c in
    subst (λ (f : ℕ → ℕ). (d : ℕ) → d < 16 → WaitsFrom f the-args.self.now.queue (136 * d) (get_or the-args.self.now.lens d 0) (get_or loop·.ends d 0))
    c.gather_numbers-numbers.ensures.number (λ d l. loop·.invariant.1 d (omega arith))
