-- `Site::confirm_now` meets its contract: the head is numbered, and commits. Assumes nothing.
use Prim.Native.Nat.{ℕ, ◌%◌, ◌<◌}
use mathlib.Core.Path.{◌≡◌, refl}
use native.Mathlib.Omega.{arith}
use Rattle.site.specs.Held.{state_of}
use Rattle.site.proofs.Shape.{shaped}
use Rattle.site.proofs.Confirmation.{commits, committed}
use Rattle.site.proofs.Site.confirm_now.Goals as goal

small_slot : (i : ℕ) → i < 128 → i % 256 ≡ i
small_slot i m = omega arith

pub commit-self-requires : goal.commit-self-requires
commit-self-requires c =
    let the-args = c.args in
    let pre· = c.requires in
    commits (state_of the-args.self the-args.committed.now the-args.working.now) (shaped the-args.self _ c.well_formed.0) the-args.i pre·.0
    pre·.1 _ refl

pub returns : goal.returns
returns c =
    let the-args = c.args in
    let pre· = c.requires in
    rw (small_slot the-args.i pre·.0.small) (committed (state_of the-args.self the-args.committed.now the-args.working.now) (shaped
    the-args.self _ c.well_formed.0) the-args.i pre·.0 pre·.1 _ refl _ _ c.commit-self.ensures)
