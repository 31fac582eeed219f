-- `Site::place_of` meets its contract: no place passed names the slot, and one of the queue does. Assumes nothing.
use native.Mathlib.Omega.{arith}
use Rattle.site.specs.Held.{store}
use Rattle.site.proofs.Shape.{shaped}
use Rattle.store.proofs.Places.{not_placed}
use Rattle.site.proofs.Site.place_of.Goals as goal

pub returns : goal.returns
returns c =
    let pre· = c.requires in
    let the-args = c.args in
    absurd (omega (
      arith,
      pre·.stands,
      not_placed (store the-args.self) (shaped the-args.self _ c.well_formed.0) pre·.laid.not_longer_than_136
          the-args.c the-args.i pre·.class (λ k l. c.loop-p.invariant k (omega (arith, c.loop-p-test.false))),
    ))
