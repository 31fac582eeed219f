-- `Site::commit` meets its contract: the head leaves its queue, its slot is free, its class's cells are copied. Assumes nothing.
use Prim.Native.Nat.{◌*◌}
use mathlib.Core.Path.{refl, ◌∙◌}
use native.Mathlib.Omega.{arith}
use lib.ListN.{get_or, drop}
use Rattle.site.specs.Held.{store}
use Rattle.slots.proofs.Free.{is_free}
use Rattle.site.proofs.Shape.{shaped}
use Rattle.store.specs.Meaning.{places}
use Rattle.store.proofs.Commit.{head_is, commit_laid, commit_means, copied, uncopied}
use lib.ListN.{length-set}
use Rattle.site.proofs.Site.commit.Goals as goal

pub offset_bounds-self-i : goal.offset_bounds-self-i
offset_bounds-self-i c =
    let the-args = c.args in
    let pre· = c.requires in
    let small = pre·.request in
    record { fits = omega arith }

pub bounds-self-i : goal.bounds-self-i
bounds-self-i c =
    let the-args = c.args in
    let pre· = c.requires in
    pre·.request

pub with_free-self-requires : goal.with_free-self-requires
with_free-self-requires c =
    let the-args = c.args in
    let pre· = c.requires in
    pre·.request

pub overflow_cast-len : goal.overflow_cast-len
overflow_cast-len c =
    let pre· = c.requires in
    record { fits = omega (arith, pre·.laid.not_longer_than_136 c.args.c pre·.class) }

pub take_head-requires : goal.take_head-requires
take_head-requires c =
    let pre· = c.requires in
    (pre·.some, pre·.laid.not_longer_than_136 c.args.c pre·.class, pre·.class)

pub returns : goal.returns
returns c =
    let the-args = c.args in
    let pre· = c.requires in
    let take-head· = c.take_head in
    let with-free· = c.with_free-self in
    let copy-class· = c.copy_class in
    let s = (store the-args.self) in
    let w = (shaped the-args.self _ c.well_formed.0) in
    let base = the-args.committed.now in
    let wrk = the-args.working.now in
    let k = the-args.c in
    let i = get_or s.queue (136 * k) 0 in
    let ps = drop 1 (places s k) in
    let head = head_is s w pre·.laid k pre·.class pre·.some in
    record {
      laid =
          commit_laid s _ w pre·.laid k i ps pre·.class head (rw (is_free _ c.default.ensures)) refl take-head·.ensures.own
          take-head·.ensures.others with-free·.ensures pre·.request refl refl refl;
      slots = length-set s.slots i _;
      cells = copy-class·.auto.to ∙ pre·.cells.0;
      site =
          λ e. commit_means s _ w pre·.laid k i ps pre·.class head (rw (is_free _ c.default.ensures)) refl take-head·.ensures.own
          take-head·.ensures.others with-free·.ensures pre·.request refl refl refl
          base wrk copy-class·.new.to
          (copied base wrk copy-class·.new.to k pre·.class pre·.cells.0 pre·.cells.1 copy-class·.ensures)
          (uncopied base wrk copy-class·.new.to k pre·.class pre·.cells.0 pre·.cells.1 copy-class·.ensures) e refl refl;
      queries = refl;
      sums = refl;
    }
