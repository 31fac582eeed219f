-- Each place passed is an entry of a query, or names a request with a number. Assumes nothing.
use native.Mathlib.Omega.{arith}
use mathlib.Core.Logic.{inl, inr}
use borrow.Author.Count.{below_none, below_more}
use Rattle.site.proofs.waiting.waits_from.Goals as goal
use Rattle.site.proofs.waiting.waits_from.Goals.{else-b-lt-SLOT_LIMIT, then-b-lt-SLOT_LIMIT+else-numbers-b-eq0}

pub loop-p-init : goal.loop-p-init
loop-p-init c = below_none _

pub returns-then-numbers-b-eq0 : goal.returns-then-numbers-b-eq0
returns-then-numbers-b-eq0 c =
    record {
      within = omega arith;
      before = c.loop-p.invariant;
      waits = λ l. (
        omega (arith, c.if-b-lt-SLOT_LIMIT.true),
        omega
            (arith, c.if-numbers-b-eq0.true),
      );
    }

pub loop-p-preserved : goal.loop-p-preserved
loop-p-preserved c =
    below_more _ _ c.loop-p.invariant (elim c.if-b-lt-SLOT_LIMIT.branch [ then-b-lt-SLOT_LIMIT+else-numbers-b-eq0 z ↦ inr (omega (arith, z.if-numbers-b-eq0.false)) | else-b-lt-SLOT_LIMIT z ↦ inl (omega (arith, z.if-b-lt-SLOT_LIMIT.false)) ])

pub returns : goal.returns
returns c =
    record { within = omega arith; before = λ k l. c.loop-p.invariant k (omega arith); waits = λ l. absurd (omega arith) }
