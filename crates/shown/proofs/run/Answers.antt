-- `run` meets its contract: what was read so far is whole records, all shown. Assumes nothing.
use Rattle.std.proofs.Common.{◌≡◌, ◌*◌, [], length, take, sym, ◌∙◌, arith, length-take, rules}
use Rattle.refusal.proofs.Outcomes.{none_refused}
use Rattle.shown.proofs.Showing.{begun, goes_on}
use Rattle.shown.proofs.run.Goals as goal

pub loop-init : goal.loop-init
loop-init g c = (search rules, search rules, [], [], begun)

pub loop-preserved : goal.loop-preserved
loop-preserved g c =
    let block = c.show_block-block in
    let n = c.whole-n.result in
    let read = take n c.fill-got.new.buf in
    let long : length read ≡ 64 * 384 = omega (arith, length-take n c.fill-got.new.buf) in
    let told = none_refused block.result.len block.result.refused (sym c.is_some.ensures ∙ c.if-is_some.false) in
    (search rules, search rules, _, _, goes_on _ _ read _ _ _ _ 384 _ long block.ensures.shows told c.loop.invariant.4)
