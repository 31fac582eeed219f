use Rattle.std.proofs.Common.{◌≡◌, ◌≤◌, ◌++◌, drop}
use Rattle.decimal.specs.Decimal.{decimal}
use Rattle.decimal.proofs.number_from.Given as goal

abbrev pub invariant-loop-i : goal.invariant-loop-i
invariant-loop-i l = record { small : l.value ≤ l.most; digits : drop l.at l.text ≡ decimal l.value ++ drop l.i l.text }
