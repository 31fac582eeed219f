-- A blank, and the digits. Assumes nothing.
use Prim.Native.Nat.{ℕ}
use native.Mathlib.Omega.{arith}
use mathlib.Core.Path.{ap, sym, ◌∙◌}
use mathlib.Core.List.{List, [], ◌∷◌, ◌++◌}
use lib.ListN.{length, take}
use Rattle.text.specs.Text.{blank}
use Rattle.text.proofs.Forms.{one_blanked, then_put}
use Rattle.text.proofs.lines.put_blanked.Goals as goal

pub put-behind-requires : goal.put-behind-requires
put-behind-requires c = omega (arith, ap length (one_blanked c.args.n), c.requires)

pub put_number-requires : goal.put_number-requires
put_number-requires c =
    let args = c.args in
    let pre = c.requires in
    omega (arith, ap length (one_blanked args.n), c.put-behind.ensures.value, pre)

pub returns : goal.returns
returns c =
    let args = c.args in
    let put = c.put-behind in
    let put-number = c.put_number in
    let e = one_blanked args.n in
    record {
      value = omega (arith, ap length e, put.ensures.value, put-number.ensures.value);
      to_after = then_put (take args.at args.to.now) _ _ (blank ∷ []) _ put.ensures.to_after put-number.ensures.to_after ∙ ap (λ (t : List ℕ). take args.at args.to.now ++ t) (sym e);
    }
