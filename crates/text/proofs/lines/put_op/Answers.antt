-- The pieces of the line stand one behind another, and they are short. Assumes nothing.
use Prim.Native.Nat.{ℕ}
use native.Mathlib.Omega.{arith}
use mathlib.Core.Path.{◌≡◌, ap, ◌∙◌}
use mathlib.Core.List.{List, [], ◌∷◌, ◌++◌}
use lib.ListN.{take, get_or}
use Rattle.std.proofs.Common.{Result, Ok, Err, true, ◌≤◌, refl}
use Rattle.std.specs.Result.{is_ok}
use Rattle.cells.specs.declared.Code.{Code}
use Rattle.cells.specs.declared.NoCode.{NoCode}
use Rattle.cells.specs.Codes.{code_byte, Decodes}
use Rattle.cells.proofs.Codes.{of_code}
use Rattle.cells.proofs.Ops.{facts}
use Rattle.plain.specs.Record.{names}
use Rattle.decimal.specs.Decimal.{blanked}
use Rattle.text.proofs.Forms.{seconds, short, pieces, then_put}
use Rattle.text.proofs.lines.put_op.Goals as goal

-- a byte from 1 to 4 is some operation's
is_decoded : (byte : ℕ) (r : Result Code NoCode) → Decodes byte r → 1 ≤ byte → byte ≤ 4 → is_ok r ≡ true
is_decoded byte (Ok code) d l m = refl
is_decoded byte (Err e) d l m = absurd (d l m)

pub unwrap-code-requires : goal.unwrap-code-requires
unwrap-code-requires c =
    let f = facts c.requires.op_ok in is_decoded _ _ c.try_from.ensures f.known.0 f.known.1

pub put_name-named-requires : goal.put_name-named-requires
put_name-named-requires c = omega (arith, c.requires.at_in_bounds)

pub put_blanked-first-requires : goal.put_blanked-first-requires
put_blanked-first-requires c =
    let s = short c.args.op c.requires.op_ok in
    omega (arith, c.put_name-named.ensures.value, c.requires.at_in_bounds, s.name (code_byte c.unwrap-code.result))

pub put_second-second-requires : goal.put_second-second-requires
put_second-second-requires c =
    let s = short c.args.op c.requires.op_ok in
    omega (arith, c.put_name-named.ensures.value, c.put_blanked-first.ensures.value, c.requires.at_in_bounds, s.name (code_byte c.unwrap-code.result))

pub put_blanked-amount-requires : goal.put_blanked-amount-requires
put_blanked-amount-requires c =
    let s = short c.args.op c.requires.op_ok in
    let code = code_byte c.unwrap-code.result in
    omega (
      arith,
      c.put_name-named.ensures.value,
      c.put_blanked-first.ensures.value,
      c.put_second-second.ensures.value,
      c.requires.at_in_bounds,
      s.name code,
      s.seconds code,
    )

pub put-requires : goal.put-requires
put-requires c =
    let s = short c.args.op c.requires.op_ok in
    let code = code_byte c.unwrap-code.result in
    omega (
      arith,
      c.put_name-named.ensures.value,
      c.put_blanked-first.ensures.value,
      c.put_second-second.ensures.value,
      c.put_blanked-amount.ensures.value,
      c.requires.at_in_bounds,
      s.name code,
      s.seconds code,
    )

pub returns : goal.returns
returns c =
    let o = c.args.op in
    let s = short o c.requires.op_ok in
    let code = code_byte c.unwrap-code.result in
    let start = take c.args.at c.args.to.now in
    let name = get_or names code [] in
    let cell = name ++ blanked (o.cell ∷ []) in
    let second = cell ++ blanked (seconds code o.second) in
    let named = then_put start _ _ name _ c.put_name-named.ensures.to_after c.put_blanked-first.ensures.to_after in
    let celled = then_put start _ _ cell _ named c.put_second-second.ensures.to_after in
    let summed = then_put start _ _ second _ celled c.put_blanked-amount.ensures.to_after in
    let all = then_put start _ _ (second ++ blanked (o.amount ∷ [])) _ summed c.put.ensures.to_after in
    let is_code : code ≡ o.code = of_code _ _ _ c.try_from.ensures c.unwrap-code.ensures in
    record {
      upper_bound = omega (
        arith,
        c.put_name-named.ensures.value,
        c.put_blanked-first.ensures.value,
        c.put_second-second.ensures.value,
        c.put_blanked-amount.ensures.value,
        c.put.ensures.value,
        s.name code,
        s.seconds code,
      );
      to_after = all ∙ ap (λ (t : List ℕ). start ++ t) (pieces o c.requires.op_ok code is_code);
    }
