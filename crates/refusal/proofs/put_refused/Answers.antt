-- `put_refused` meets its contract: each piece is put behind the one before it, and no number has more than 20 digits. Assumes nothing.
use Rattle.std.proofs.Common.{arith}
use Rattle.decimal.proofs.Runs.{at_most}
use Rattle.refusal.proofs.put_refused.Goals as goal

pub put_number-numbered-requires : goal.put_number-numbered-requires
put_number-numbered-requires c = omega (arith, at_most c.in-BadText.line 20 (omega arith) (omega arith))

pub put-requires-2 : goal.put-requires-2
put-requires-2 c = omega (arith, at_most c.in-BadText.line 20 (omega arith) (omega arith))

pub returns-clause-upper_bound : goal.returns-clause-upper_bound
returns-clause-upper_bound c = omega (arith, at_most c.in-BadText.line 20 (omega arith) (omega arith))
