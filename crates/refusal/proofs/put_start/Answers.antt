-- `put_start` meets its contract: each piece is put behind the one before it, and no number has more than 20 digits. Assumes nothing.
use native.Mathlib.Omega.{arith}
use Rattle.decimal.proofs.Runs.{at_most}
use Rattle.refusal.specs.Said.{refusal_start}
use Rattle.refusal.proofs.put_start.Goals as goal

pub put_number-placed-requires : goal.put_number-placed-requires
put_number-placed-requires c = omega (arith, at_most c.args.place 20 (omega arith) (omega arith))

pub put-said-requires : goal.put-said-requires
put-said-requires c = omega (arith, at_most c.args.place 20 (omega arith) (omega arith))

pub put_number-requires : goal.put_number-requires
put_number-requires c =
    let args = c.args in
    omega (arith, at_most args.place 20 (omega arith) (omega arith), at_most args.number 20 (omega arith) (omega arith))

pub returns : goal.returns
unfolding refusal_start
returns c =
    let args = c.args in
    record {
      upper_bound = omega (arith, at_most args.place 20 (omega arith) (omega arith), at_most args.number 20 (omega arith) (omega arith));
      to_after = rw (c.put_number.ensures.to_after, c.put-said.ensures.to_after, c.put_number-placed.ensures.to_after, c.put-named.ensures.to_after);
    }
