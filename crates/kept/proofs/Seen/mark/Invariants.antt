use mathlib.Core.Path.{◌≡◌}
use lib.ListN.{length, get_or}
use Rattle.store.specs.Sound.{Apart}
use Rattle.kept.specs.Marks.{MarkedUpTo}
use Rattle.kept.proofs.Seen.mark.Given as goal

abbrev pub invariant-loop-p : goal.invariant-loop-p
invariant-loop-p l =
    (l.self.kept ≡ l.initial.self.kept) × (length l.self.marks ≡ 4096) × Apart l.p (λ k. get_or l.self.kept k 0) × MarkedUpTo l.self.kept l.self.marks l.p
