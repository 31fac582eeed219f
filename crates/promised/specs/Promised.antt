-- What a call promises its caller: the contract of each function here, in the words of `promises`. Assumes nothing.
use Rattle.std.specs.Prelude.{ℕ, ◌<◌, ◌≡◌, ◌↔◌, List, [], ◌∷◌, length}
use Rattle.plain.specs.Sizes.{class_count}
use Rattle.plain.specs.Steps.{Answer}
use Rattle.plain.specs.Site.{Call, offer, confirm, work, read, look, query}
use Rattle.store.specs.Store.{Store, run_size}
use Rattle.store.specs.Calls.{State, RightCells, Started}
use Rattle.promises.specs.Runs.{Happens, Ready, Accepted, on_cells, Run, FromFresh}
use Rattle.promises.specs.Demands.{Demand1, Demand2, Demand3, KeepsSlot, BackAtMost, Queried}

-- what is promised of one kind of call alone: THE SLOT PROMISE of an accepted offer, DEMAND 3 of an accepted confirmation, THE QUERY'S PROMISE of an
-- accepted query on a site that came from fresh
abbrev pub OfItsKind : State → Call → State → Answer → Type 0
OfItsKind x (offer b) y a = Accepted a → KeepsSlot b y a
OfItsKind x (confirm i n) y a = Accepted a → Demand3 x i n y a
OfItsKind x (work c) y a = Unit
OfItsKind x (read c k) y a = Unit
OfItsKind x (look i) y a = Unit
OfItsKind x (query m) y a = (h : List Call) → FromFresh h x → Accepted a → Queried h x m y a

-- A CALL k on x hands back y and answers a
pub record Promised (x : State) (k : Call) (y : State) (a : Answer) : Type 0 where
  -- it is a call that was made, of which all promises speak
  pub happens : Happens x k y a
  pub demand_1 : Demand1 x k y a
  pub of_its_kind : OfItsKind x k y a
  -- a run that led to x goes on to y, a run from fresh too, and then demand 2 holds of y
  pub goes_on : (z : State) (h : List Call) → Run z h x → Run z (k ∷ h) y
  pub from_fresh : (h : List Call) → FromFresh h x → FromFresh (k ∷ h) y
  pub demand_2 : (h : List Call) → FromFresh h x → (c : ℕ) → c < class_count → Demand2 (k ∷ h) y c
  -- HOW UNLUCKY: and then a request was put back at most as often as it may be, on x, also where this call answers it, and on y
  pub back_at_most : (h : List Call) → FromFresh h x → BackAtMost h x × BackAtMost (k ∷ h) y
  -- with wrong cells a run that led to the site goes on with the cells that it had
  pub beside : (z w : State) (h : List Call) → w.site ≡ x.site → (RightCells x → ⊥) → Run z h w → Run z h (on_cells y w.committed w.working)

-- A FRESH START hands back the site t and both runs of cells, and answers the number n: 1 exactly where a run is not 1,024 long, and then no cell is
-- touched; with 0 the site is sound with its cells, and a run begins
pub record Begun (base wrk : List ℕ) (t : Store) (n : ℕ) (base' wrk' : List ℕ) : Type 0 where
  pub started : Started base wrk t n base' wrk'
  pub refuses : (n ≡ 1) ↔ ((length base ≡ run_size) × (length wrk ≡ run_size) → ⊥)
  pub untouched : n ≡ 1 → (base' ≡ base) × (wrk' ≡ wrk)
  pub ready : n ≡ 0 → Ready (record { site = t; committed = base'; working = wrk' })
  pub begins : n ≡ 0 → FromFresh [] (record { site = t; committed = base'; working = wrk' })
