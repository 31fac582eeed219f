-- `Site::first_waiting` meets its contract: the walk over its places, with the slots' numbers. Assumes nothing.
use Prim.Native.Nat.{ℕ, ◌*◌}
use mathlib.Core.Path.{subst}
use Rattle.site.specs.Held.{store}
use Rattle.store.specs.Meaning.{len_of}
use Rattle.store.specs.Steps.{WaitsFrom}
use Rattle.site.proofs.Site.first_waiting.Goals as goal

pub returns : goal.returns
returns c =
    let the-args = c.args in
    let waits-from· = c.waits_from in
    subst (λ (f : ℕ → ℕ). WaitsFrom f the-args.self.now.queue (136 * the-args.c) (len_of (store the-args.self.now) the-args.c) waits-from·.result)
    c.gather_numbers-numbers.ensures.number waits-from·.ensures
