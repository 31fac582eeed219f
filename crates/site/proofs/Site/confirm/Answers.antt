-- `Site::confirm` meets its contract: refused as it was judged, committed, or moved forward. Assumes nothing.
use Rattle.site.specs.Held.{state_of}
use Rattle.site.proofs.Shape.{shaped}
use Rattle.site.proofs.Confirmation.{small_class, in_queue}
use Rattle.site.proofs.Site.confirm.Goals as goal

pub head_done-requires : goal.head_done-requires
head_done-requires c =
    let the-args = c.args in
    let j· = c.in-Ok.ensures in (
      j·.ready.small,
      rw j·.class (small_class (state_of the-args.self the-args.committed.now the-args.working.now) (shaped the-args.self _ c.well_formed.0)
          c.in-Ok.found.slot j·.ready),
      j·.class,
    )

pub place_of-from-requires : goal.place_of-from-requires
place_of-from-requires c =
    let the-args = c.args in
    let j· = c.in-Ok.ensures in
    rw j·.class (in_queue (state_of the-args.self the-args.committed.now the-args.working.now) (shaped the-args.self _ c.well_formed.0)
    c.in-Ok.found.slot j·.ready)
