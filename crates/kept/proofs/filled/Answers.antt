-- Each turn decides the rule of its place. Assumes nothing.
use native.Mathlib.Omega.{arith}
use borrow.Author.Tests.{not-true}
use Rattle.plain.proofs.Deciding.{decides_false}
use Rattle.kept.proofs.Places.{filled_at, filled_flag}
use Rattle.kept.proofs.filled.Goals as goal

pub returns-then-in_use-id : goal.returns-then-in_use-id
returns-then-in_use-id c = decides_false (λ h. filled_flag _ c.args.kept.now _ _ c.in_use.ensures (filled_at _ _ h _ (omega arith)) (not-true _ c.if-in_use-id.true))
