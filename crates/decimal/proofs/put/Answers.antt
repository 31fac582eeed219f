-- What is put stands where the copy put it, and behind it nothing is touched. Assumes nothing.
use Rattle.std.proofs.Common.{arith}
use Rattle.std.proofs.lemmas.Slice.{drop-put_mid}
use Rattle.decimal.proofs.put.Goals as goal

pub returns-clause-to_unchanged : goal.returns-clause-to_unchanged
returns-clause-to_unchanged c = drop-put_mid c.args.at _ c.args.to.now c.copy_from_slice.new.self _ (omega arith) (omega arith) (omega arith)
