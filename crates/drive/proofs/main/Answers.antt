-- `main` meets its contract: both runs have 1,024 cells, so what it hands on is a fresh site. Assumes nothing.
use Rattle.std.proofs.Common.{ℕ}
use lib.ListN.{length-replicate}
use Rattle.drive.proofs.main.Goals as goal

pub run-requires : goal.run-requires
run-requires c =
    let fresh = c.fresh-start in
    fresh.ensures.begins (fresh.ensures.started.right (length-replicate {A = ℕ} 1024 0) (length-replicate {A = ℕ} 1024 0)).0
