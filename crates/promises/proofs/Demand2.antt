-- Demand 2: after any run from fresh the committed cells of a class are those of running its committed requests one after another, and these are
-- the first confirmed ones; and its sentence about two sites. Assumes nothing.
use Prim.Native.Nat.{ℕ, ◌<◌}
use mathlib.Core.Path.{◌≡◌, sym, ap, ◌∙◌}
use mathlib.Core.List.{List}
use lib.ListN.{length}
use Rattle.plain.specs.Steps.{Class}
use Rattle.plain.specs.Site.{Call}
use Rattle.plain.specs.History.{after, confirmations, committed_in}
use Rattle.plain.proofs.Demand2 as D
use Rattle.plain.proofs.Logs.{counted}
use Rattle.store.specs.Meaning.{cells_of, plain, plain_class}
use Rattle.store.specs.Calls.{State}
use Rattle.promises.specs.Runs.{FromFresh}
use Rattle.promises.specs.Demands.{Demand2}
use Rattle.promises.proofs.Stands.{stands_fresh}

-- the run's cells are the history's
cells_there : {h : List Call} {y : State} → FromFresh h y → (c : ℕ) → c < 16 → cells_of y.committed c ≡ ((after h).class c).committed
unfolding plain plain_class after
cells_there f c l = ap (λ (k : Class). k.committed) ((stands_fresh f).same.class c l)

pub demand_2 : {h : List Call} {y : State} → FromFresh h y → (c : ℕ) → c < 16 → Demand2 h y c
demand_2 {h} f c l = record {
  serial = cells_there f c l ∙ D.cells_are_the_serial_run h c;
  first_confirmed = D.first_confirmed h c;
  counted = (counted h).0;
}

pub two_sites : {h h' : List Call} {y y' : State} → FromFresh h y → FromFresh h' y' → confirmations h ≡ confirmations h' → (c : ℕ) → c < 16
    → length (committed_in c h) ≡ length (committed_in c h') → cells_of y.committed c ≡ cells_of y'.committed c
two_sites {h} {h'} f g e c l n = cells_there f c l ∙ D.same_cells h h' c e n ∙ sym (cells_there g c l)
