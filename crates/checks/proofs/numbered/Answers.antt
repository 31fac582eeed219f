-- After so many slots n is how many of them hold a number. Assumes nothing.
use native.Mathlib.Omega.{arith}
use mathlib.Core.Path.{◌≡◌}
use lib.ListN.{take}
use lib.Seq.{get_or-take}
use Rattle.store.specs.Checks.{nth}
use Rattle.store.proofs.Tally.{one_numbered, not_numbered, none_numbered}
use Rattle.checks.proofs.numbered.Goals as goal
use Rattle.checks.proofs.numbered.Goals.{else-line-ne0, then-line-ne0}

pub loop-line-init : goal.loop-line-init
loop-line-init c = (omega arith, none_numbered _)

pub loop-line-preserved : goal.loop-line-preserved
loop-line-preserved c =
    let i· = c.loop-line.line-index in
    let l· = c.args.lines.now in
    let e : nth (take 128 l·) i· ≡ nth l· i· = get_or-take 128 l· i· 0 (omega arith) in
    elim c.if-line-ne0.branch [
      | then-line-ne0 w ↦ (omega (arith, w.n-is), omega (arith, w.n-is, one_numbered (nth l·) i· (rw e at w.if-line-ne0.true)))
      | else-line-ne0 w ↦ (omega (arith, w.n-is), omega (arith, w.n-is, not_numbered (nth l·) i· (rw e at w.if-line-ne0.false)))
    ]
