-- After i turns the first i cells are the copied ones. Assumes nothing.
use Rattle.std.proofs.Common.{◌≡◌, ℕ, ◌+◌, ◌<◌, ◌≤◌, List, length, get_or, take, set, sym, ◌∙◌, add-one, take_all, take-suc, take-suc-set, rules}
use Rattle.cells.proofs.copy_cells.Goals as goal

-- a turn's store
one_more : (to from : List ℕ) (i : ℕ) → i < length to → i < length from → take i to ≡ take i from
    → take (i + 1) (set to i (get_or from i 0)) ≡ take (i + 1) from
one_more to from i h k e = rw (add-one, take-suc-set, take-suc from i 0, e)

whole : (to from : List ℕ) (i : ℕ) → length to ≤ i → length from ≤ i → take i to ≡ take i from → to ≡ from
whole to from i h k e = sym (take_all i to h) ∙ e ∙ take_all i from k

pub loop-i-preserved : goal.loop-i-preserved
loop-i-preserved c =
    let loop = c.loop-i in
    let from = c.args.from.now in
    (one_more loop.to from loop.i (search rules) (search rules) loop.invariant.0, search rules)

pub returns : goal.returns
returns c = whole _ _ c.loop-i.i (search rules) (search rules) c.loop-i.invariant.0
