-- `places::take_head` meets its contract: taking out the place at the class's start is taking the head out of the class's part. Assumes nothing.
use mathlib.Core.Path.{◌≡◌}
use native.Mathlib.Omega.{arith}
use lib.ListN.{length}
use borrow.Author.Rules.{rules}
use Rattle.places.proofs.Classes.{short_class}
use Rattle.places.proofs.take_head.Goals as goal

pub returns : goal.returns
returns c =
    let a = c.args in
    let l : length a.q.now ≡ 2176 = search rules in
    short_class a.q.now a.class l (omega arith) a.len _ (omega arith) (omega arith) c.close_up.ensures
