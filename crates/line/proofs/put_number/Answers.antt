-- The digits that stand behind the line are the fewest, so they are the number's text. Assumes nothing.
use mathlib.Core.Path.{◌∙◌, ap}
use mathlib.Core.List.{List, ◌++◌}
use Prim.Native.Nat.{ℕ}
use Rattle.decimal.proofs.Digits.{is_decimal}
use Rattle.line.proofs.Behind.{went_well}
use Rattle.line.proofs.put_number.Goals as goal

pub returns-clause-line_after : goal.returns-clause-line_after
returns-clause-line_after c =
    let decimal = c.decimal-count in
    went_well _ _ _ c.unwrap.ensures c.try_extend_from_slice.ensures.ok
    ∙ ap (λ (t : List ℕ). c.args.line.now.items ++ t) (decimal.ensures.digits ∙ is_decimal _ _ decimal.ensures.len)
