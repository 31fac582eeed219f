-- What is promised of a call follows from its contract in `site` and from what the declared types say of both sites. Assumes nothing.
use Prim.Native.Nat.{ℕ}
use mathlib.Core.Path.{subst}
use mathlib.Core.List.{List}
use Rattle.plain.specs.Steps.{Answer}
use Rattle.plain.specs.Site.{Call, offer, confirm, work, read, look, query}
use Rattle.store.specs.Store.{Store, Shaped}
use Rattle.store.specs.Calls.{State, Called, Started}
use Rattle.promises.specs.Runs.{Happens}
use Rattle.promises.proofs.Made as M
use Rattle.promises.proofs.Promises.{promises}
use Rattle.promised.specs.Promised.{OfItsKind, Promised, Begun}

of_kind : {x y : State} {a : Answer} (k : Call) → Happens x k y a → OfItsKind x k y a
of_kind (offer b) e = promises.keeps_slot e
of_kind (confirm i n) e = promises.demand_3 e
of_kind (work c) e = tt
of_kind (read c k) e = tt
of_kind (look i) e = tt
of_kind (query m) e = λ h f a. promises.queried f e a

by_promises : {x y : State} {k : Call} {a : Answer} → Happens x k y a → Promised x k y a
by_promises {k = k} e = record {
  happens = e;
  demand_1 = promises.demand_1 e;
  of_its_kind = of_kind k e;
  goes_on = λ z h r. M.goes_on e r;
  from_fresh = λ h f. M.goes_on_from_fresh e f;
  demand_2 = λ h f c l. promises.demand_2 (M.goes_on_from_fresh e f) c l;
  back_at_most = λ h f. (promises.back_at_most f, promises.back_at_most (M.goes_on_from_fresh e f));
  beside = λ z w h p n r. M.goes_on_beside e p n r;
}

pub promised : {x y : State} {k : Call} {a : Answer} → Shaped x.site → Called x k y a → Shaped y.site → Promised x k y a
promised v c w = by_promises (M.happens v c w)

pub begun : {base wrk base' wrk' : List ℕ} {t : Store} {n : ℕ} → Started base wrk t n base' wrk' → Begun base wrk t n base' wrk'
begun {base} {wrk} {base'} {wrk'} {t} s = record {
  started = s;
  refuses = promises.fresh_refuses s;
  untouched = promises.fresh_untouched s;
  ready = λ e. promises.fresh_ready (subst (λ (m : ℕ). Started base wrk t m base' wrk') e s);
  begins = λ e. M.begins (subst (λ (m : ℕ). Started base wrk t m base' wrk') e s);
}
