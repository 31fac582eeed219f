-- Calls make runs: a call that keeps its contract happens, a run goes on with it, and a fresh start that answers 0 begins one. So no premise of
-- these words is empty. Assumes nothing.
use Prim.Native.Nat.{ℕ}
use mathlib.Core.Path.{◌≡◌, sym, subst}
use mathlib.Core.List.{List, [], ◌∷◌}
use Rattle.plain.specs.Steps.{Answer}
use Rattle.plain.specs.Site.{Call}
use Rattle.store.specs.Store.{Store, Shaped}
use Rattle.store.specs.Calls.{State, RightCells, Called, Started}
use Rattle.promises.specs.Runs.{Happens, on_cells, Run, start, more, wrong, FromFresh}

-- a call of the contract, between sites of their declared types
pub happens : {x y : State} {k : Call} {a : Answer} → Shaped x.site → Called x k y a → Shaped y.site → Happens x k y a
happens v c w = record { before = v; called = c; after = w }

-- a fresh start that answered 0
pub begins : {base wrk base' wrk' : List ℕ} {t : Store} → Started base wrk t 0 base' wrk'
    → FromFresh [] (record { site = t; committed = base'; working = wrk' })
begins {base} {wrk} {base'} {wrk'} {t} s =
    record { base = base; wrk = wrk; begin = record { site = t; committed = base'; working = wrk' }; started = s; run = start }

module _ {x y : State} {k : Call} {a : Answer} (e : Happens x k y a) {h : List Call} where
  -- a run that led to its site and cells
  pub goes_on : {z : State} → Run z h x → Run z (k ∷ h) y
  goes_on r = more k y a r e

  pub goes_on_from_fresh : FromFresh h x → FromFresh (k ∷ h) y
  goes_on_from_fresh f = record { base = f.base; wrk = f.wrk; begin = f.begin; started = f.started; run = goes_on f.run }

  -- a run that led to its site, where the cells were wrong
  pub goes_on_beside : {z w : State} → w.site ≡ x.site → (RightCells x → ⊥) → Run z h w → Run z h (on_cells y w.committed w.working)
  goes_on_beside p n r =
      wrong x.committed x.working k y a r n
      (subst (λ (s : Store). Happens (record { site = s; committed = x.committed; working = x.working }) k y a) (sym p) e)
