-- Of the places passed no two hold the same id but 0, and each has its mark. Assumes nothing.
use native.Mathlib.Omega.{arith}
use mathlib.Core.Path.{refl, ◌∙◌}
use lib.ListN.{get_or, length-set}
use Rattle.plain.proofs.Tests.{no}
use Rattle.plain.proofs.Deciding.{decides_false}
use Rattle.kept.proofs.Places.{apart_more, mark_more, new}
use Rattle.kept.proofs.Seen.mark.Goals as goal

pub returns-then-stands : goal.returns-then-stands
returns-then-stands c =
    let i· = c.loop-p.invariant in
    let a = c.stands.ensures.yes c.if-stands.true in record {
      kept = i·.0;
      decides = rw (← i·.0) (decides_false (λ h. omega (arith, a.0, a.1.2, h a.1.0 c.loop-p.p a.1.1 (omega arith) a.1.2)));
      marks = λ e. no _ e refl;
    }

pub loop-p-preserved : goal.loop-p-preserved
loop-p-preserved c =
    let loop· = c.loop-p in
    let kept· = loop·.self.kept in (
      loop·.invariant.0,
      length-set loop·.self.marks _ 1 ∙ loop·.invariant.1,
      apart_more (λ k. get_or kept· k 0) loop·.p loop·.invariant.2 (new kept· loop·.p (c.stands.ensures.no c.if-stands.false)),
      mark_more kept· loop·.self.marks loop·.p loop·.invariant.1 loop·.invariant.3,
    )
