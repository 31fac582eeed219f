-- One of the two rules speaks of k. Assumes nothing.
use native.Mathlib.Omega.{arith}
use Rattle.plain.proofs.Deciding.{decides_as}
use Rattle.slots.proofs.op_ok_at.Goals as goal

pub returns-then-k-count : goal.returns-then-k-count
returns-then-k-count c = let l = c.if-k-count.true in decides_as (λ h. ((λ m. h), (λ m. absurd (omega arith)))) (λ h. h.0 l) c.op_ok.ensures

pub returns-else-k-count : goal.returns-else-k-count
returns-else-k-count c = let l = c.if-k-count.false in decides_as (λ h. ((λ m. absurd (omega arith)), (λ m. h))) (λ h. h.1 l) c.is_zero.ensures
