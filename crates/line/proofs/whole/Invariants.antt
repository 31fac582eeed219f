use Prim.Native.Nat.{◌+◌, ◌*◌, ◌≤◌}
use mathlib.Core.Path.{◌≡◌}
use mathlib.Core.List.{◌++◌, ◌∷◌}
use lib.ListN.{take}
use Rattle.decimal.specs.Decimal.{decimal, blanked}
use Rattle.arrayvec.specs.ArrayVec.{array_vec_len}
use Rattle.line.proofs.whole.Given as goal

abbrev pub invariant-loop-number : goal.invariant-loop-number
invariant-loop-number l =
    (l.line.items ≡ (decimal l.place ++ (32 ∷ l.word)) ++ blanked (take l.number-index l.numbers)) × (array_vec_len l.line ≤ 32 + 21 * l.number-index)
