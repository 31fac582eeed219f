-- The digits that are put are the fewest, so they are the number's text. Assumes nothing.
use Prim.Native.Nat.{ℕ, ◌+◌}
use native.Mathlib.Omega.{arith}
use mathlib.Core.Path.{◌∙◌, ap}
use mathlib.Core.List.{List, ◌++◌}
use lib.ListN.{length, take}
use Rattle.decimal.proofs.Digits.{is_decimal}
use Rattle.decimal.proofs.put_number.Goals as goal

pub put-requires : goal.put-requires
put-requires c =
    let decimal-call = c.decimal-k in
    let pre = c.requires in
    let e = decimal-call.ensures.digits ∙ is_decimal _ _ decimal-call.ensures.len in
    omega (arith, ap length e, pre)

pub returns : goal.returns
returns c =
    let decimal-call = c.decimal-k in
    let put = c.put in
    let args = c.args in
    let e = decimal-call.ensures.digits ∙ is_decimal _ _ decimal-call.ensures.len in
    record {
      value = put.ensures.value ∙ ap (λ (t : List ℕ). args.at + length t) e;
      to_after = put.ensures.to_after ∙ ap (λ (t : List ℕ). take args.at args.to.now ++ t) e;
      to_unchanged = put.ensures.to_unchanged;
    }
