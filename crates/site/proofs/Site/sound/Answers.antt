-- `Site::sound` meets its contract: the rules but that of the cells, and that of the cells by the heads, are soundness. Assumes nothing.
use mathlib.Core.Path.{refl}
use Rattle.site.specs.Held.{store}
use Rattle.site.proofs.Shape.{shaped}
use Rattle.plain.proofs.Deciding.{decides_false, decides_as}
use Rattle.store.proofs.Cells.{heads_hold, cells_is}
use Rattle.store.proofs.Whole.{sound_from, laid_in, kept_in}
use Rattle.site.proofs.Site.sound.Goals as goal

pub returns-in-None : goal.returns-in-None
returns-in-None c =
    let w = shaped c.args.self _ c.well_formed.0 in
    let s = store c.args.self in
    let base = c.args.committed.now in
    let wrk = c.args.working.now in
    decides_false (λ h. c.in-None.ensures.decides.no refl (h.laid.free_or_valid, h.backs_bounded, laid_in s w base wrk h, kept_in s w base wrk h))

pub cells_ok-requires : goal.cells_ok-requires
cells_ok-requires c =
    let o = c.in-Some.ensures.decides.yes refl in record {
      committed_len = c.requires;
      heads_hold = heads_hold (store c.args.self) (shaped c.args.self _ c.well_formed.0) o.0 o.2.short o.2.once c.in-Some.heads c.in-Some.ensures.heads;
    }

pub returns-in-Some : goal.returns-in-Some
returns-in-Some c =
    let w = shaped c.args.self _ c.well_formed.0 in
    let s = store c.args.self in
    let base = c.args.committed.now in
    let wrk = c.args.working.now in
    let o = c.in-Some.ensures.decides.yes refl in
    decides_as (λ cells. sound_from s w base wrk o.0 o.2 cells o.3 o.1) (λ h. h.working_cells_follow)
    (cells_is s w o.0 o.2.short o.2.once c.in-Some.heads c.in-Some.ensures.heads base wrk c.cells_ok.ensures)
