-- `places::move_forward` meets its contract: a move between places counted from the class's start is that move in the class's part. Assumes nothing.
use mathlib.Core.Path.{◌≡◌}
use native.Mathlib.Omega.{arith}
use lib.ListN.{length}
use borrow.Author.Rules.{rules}
use Rattle.places.proofs.Classes.{moved_class}
use Rattle.places.proofs.move_forward.Goals as goal

pub returns : goal.returns
returns c =
    let a = c.args in
    let l : length a.q.now ≡ 2176 = search rules in
    moved_class a.q.now a.class l (omega arith) a.from a.to _ (omega arith) (omega arith) c.shift_back.ensures
