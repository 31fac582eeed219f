-- Each turn gathers one slot; then each the line of one query. Assumes nothing.
use Prim.Native.Nat.{◌+◌}
use native.Mathlib.Omega.{arith}
use mathlib.Core.Path.{refl, ◌≡◌}
use borrow.Author.Rules.{rules}
use Rattle.store.proofs.Gathered.{stage_none, line_more, stage_all}
use Rattle.checks.proofs.gather.gather_stages.Goals as goal

pub loop-at-init : goal.loop-at-init
loop-at-init c = stage_none _ _

pub loop-p-preserved : goal.loop-p-preserved
loop-p-preserved c =
    let p· = c.loop-p in
    λ l h. line_more l c.args.table p·.g.lines p·.g.dones p·.g.marks p·.g.dues 128 (128 + p·.p) (p·.invariant l h) p·.p (omega arith) refl

pub returns : goal.returns
returns c =
    let p· = c.loop-p in
    let l· = c.args.slots in
    let e : c.loop-at.at ≡ 128 = omega arith in
    stage_all l· c.args.table p·.g.lines p·.g.dones p·.g.marks p·.g.dues 128 (128 + p·.p)
    (p·.invariant l· (rw e at c.loop-at.invariant)) (search rules) (search rules) (omega arith) (omega arith)
