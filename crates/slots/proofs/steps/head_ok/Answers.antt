-- Each rule of a head is tested, the mark and the cells against those of a run of its done operations. Assumes nothing.
use native.Mathlib.Omega.{arith}
use mathlib.Core.Path.{◌≡◌, sym, ◌∙◌}
use mathlib.Core.Logic.{inl, inr}
use lib.ListN.{length}
use borrow.Author.Rules.{rules}
use Rattle.plain.specs.Sizes.{cell_count}
use Rattle.plain.proofs.Deciding.{decides_as}
use Rattle.slots.proofs.Shape.{seven}
use Rattle.slots.proofs.Records.{ops_count}
use Rattle.slots.proofs.steps.head_ok.Goals as goal

pub same_cells-requires : goal.same_cells-requires
same_cells-requires c =
    let n : length c.run_done-ran.result.cells ≡ cell_count = search rules in
    c.requires.1 ∙ sym n

pub returns-then-ran-v : goal.returns-then-ran-v
returns-then-ran-v c =
    let v = c.args.v in
    let n = ops_count v (seven v _ c.well_formed.0) c.requires.2 in
    let r = c.run_done-ran.ensures in
    λ i. decides_as
    (λ e. record {
      within = omega arith;
      unfinished = λ k. elim c.if-v-2.either [ inl w ↦ let d = w.1 in omega (arith, n) | inr z ↦ absurd (omega arith) ];
      mark = sym c.if-ran-v.true ∙ r.mark_is;
      cells = e ∙ r.cells;
    })
    (λ h. h.cells ∙ sym r.cells)
    c.same_cells.ensures
