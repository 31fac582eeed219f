use mathlib.Core.Path.{◌≡◌}
use lib.ListN.{length, take}
use Rattle.plain.specs.Sizes.{cell_count}
use Rattle.plain.specs.Ops as P
use Rattle.slots.specs.Meaning.{request_of}
use Rattle.slots.proofs.steps.run_done.Given as goal

abbrev pub invariant-loop-k : goal.invariant-loop-k
invariant-loop-k l = (P.carry_all (take l.k (request_of l.v).ops) l.from ≡ P.carried l.ran.cells) × (length l.ran.cells ≡ cell_count) × (l.ran.mark ≡ 0)
