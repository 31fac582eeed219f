-- `run` meets its contract: what was taken so far, and what is left, are those of all that was read. Assumes nothing.
use Rattle.std.proofs.Common.{◌≡◌, [], length, sym, ◌∙◌, rules}
use Rattle.refusal.proofs.Outcomes.{none_refused}
use Rattle.typed.proofs.Runs.{nothing_read, turned}
use Rattle.typed.proofs.run.Goals as goal

pub loop-init : goal.loop-init
loop-init g c = (search rules, search rules, search rules, [], [], nothing_read)

pub loop-preserved : goal.loop-preserved
loop-preserved g c =
    let fill = c.fill-got in
    let loop = c.loop in
    let keep = c.keep-rest in
    let block = c.take_block-block in
    let n = fill.result.len in
    let after = fill.new.input in
    let full : n ≡ length after = search rules in
    let told = none_refused block.result.len block.result.refused (sym c.is_some.ensures ∙ c.if-is_some.false) in (
      search rules,
      search rules,
      search rules,
      _,
      _,
      turned _ _ loop.input after keep.new.input _ loop.rest n block.result.at keep.result _ _ _ c.ends_input-last.result fill.result.failed _ (search rules) full (search rules)
          fill.ensures.rest_le_len.1 c.ends_input-last.ensures (search rules) loop.invariant.5 block.ensures.takes_block told keep.ensures.input_after,
    )
