-- Each turn decides the rule of its slot, and all 128 are looked at. Assumes nothing.
use native.Mathlib.Omega.{arith}
use Rattle.plain.proofs.Deciding.{decides_false}
use Rattle.kept.proofs.Places.{some_id}
use Rattle.kept.proofs.Seen.all_match.Goals as goal

pub returns-then-not-matches : goal.returns-then-not-matches
returns-then-not-matches c = decides_false (λ h. c.matches.ensures.no c.if-not-matches.true (h _ (omega arith) (some_id _ c.if-id-ne0.true)))
