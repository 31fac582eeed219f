-- `usedmap::UsedMap::used_count` meets its contract: the count of two lists in a row is the sum of theirs, at most the 128 slots. Assumes nothing.
use native.Mathlib.Omega.{arith}
use Rattle.usedmap.specs.Flags.{used_of}
use Rattle.usedmap.proofs.Flags.{count_le, count_both, used_length}
use Rattle.usedmap.proofs.UsedMap.used_count.Goals as goal

pub overflow_add-result : goal.overflow_add-result
overflow_add-result c =
    let m = c.args.self in
    omega (arith, count_both m.lo m.hi, count_le (used_of m.lo m.hi), used_length m.lo m.hi)

pub returns : goal.returns
returns c = let m = c.args.self in omega (arith, count_both m.lo m.hi)
