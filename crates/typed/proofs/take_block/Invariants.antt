use Rattle.std.proofs.Common.{◌≡◌, ◌-◌, ◌*◌, ◌^◌, ◌<◌, ◌≤◌, length, take}
use Rattle.typed.proofs.Taking.{SoFar}
use Rattle.typed.proofs.take_block.Given as goal

abbrev pub invariant-loop-at : goal.invariant-loop-at
invariant-loop-at l = (l.at ≤ l.n) × (l.len ≤ 64 * l.at) × (length l.records ≡ length l.initial.records) × (l.place < 2 ^ 64) × SoFar l.input l.last l.first (take l.len l.records) l.at l.place

abbrev pub decreases-loop-at : goal.decreases-loop-at
decreases-loop-at l = l.n - l.at
