use Rattle.std.proofs.Common.{◌-◌}
use Rattle.plain.specs.Sizes.{most_ops}
use Rattle.text.proofs.Parsing.{SoFar}
use Rattle.text.proofs.parse.parse.Given as goal

abbrev pub invariant-loop-at : goal.invariant-loop-at
invariant-loop-at l = SoFar l.text l.head.id l.head.class l.ops l.at l.k

abbrev pub decreases-loop-at : goal.decreases-loop-at
decreases-loop-at l = most_ops - l.k
