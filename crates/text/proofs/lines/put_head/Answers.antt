-- The pieces of the line stand one behind another, and they are short. Assumes nothing.
use native.Mathlib.Omega.{arith}
use mathlib.Core.Path.{◌∙◌}
use mathlib.Core.List.{[], ◌∷◌, ◌++◌}
use Rattle.decimal.specs.Decimal.{decimal, blanked}
use Rattle.decimal.proofs.Runs.{at_most}
use Rattle.text.proofs.Forms.{blanked_short, head_pieces, then_put}
use Rattle.text.proofs.lines.put_head.Goals as goal

pub put_number-numbered-requires : goal.put_number-numbered-requires
put_number-numbered-requires c = omega (arith, at_most c.args.id 10 (omega arith) (omega arith), c.requires.1)

pub put_blanked-classed-requires : goal.put_blanked-classed-requires
put_blanked-classed-requires c =
    let args = c.args in
    let pre = c.requires in
    let d = at_most args.id 10 (omega arith) (omega arith) in
    let b = blanked_short args.class 2 (omega arith) (omega (arith, pre.0)) in
    omega (arith, c.put_number-numbered.ensures.value, pre.1)

pub put-requires : goal.put-requires
put-requires c =
    let args = c.args in
    let pre = c.requires in
    let put-number = c.put_number-numbered in
    let put-blanked = c.put_blanked-classed in
    let d = at_most args.id 10 (omega arith) (omega arith) in
    let b = blanked_short args.class 2 (omega arith) (omega (arith, pre.0)) in
    omega (arith, put-number.ensures.value, put-blanked.ensures.value, pre.1)

pub returns : goal.returns
returns c =
    let args = c.args in
    let pre = c.requires in
    let put-number = c.put_number-numbered in
    let put-blanked = c.put_blanked-classed in
    let put = c.put in
    let d = at_most args.id 10 (omega arith) (omega arith) in
    let b = blanked_short args.class 2 (omega arith) (omega (arith, pre.0)) in
    let numbered = then_put [] _ _ (decimal args.id) _ put-number.ensures.to_after put-blanked.ensures.to_after in
    record {
      upper_bound = omega (arith, put-number.ensures.value, put-blanked.ensures.value, put.ensures.value);
      to_after = then_put [] _ _ (decimal args.id ++ blanked (args.class ∷ [])) _ numbered put.ensures.to_after ∙ head_pieces args.id args.class;
    }
