-- Any two outcomes of a call are equal, and any two of fresh; and so any two runs of the same calls end alike, since a call that was given wrong
-- cells changes nothing. Assumes nothing.
use Prim.Native.Nat.{ℕ}
use mathlib.Core.Path.{◌≡◌, refl, sym, ◌∙◌, subst}
use mathlib.Core.List.{List, [], ◌∷◌}
use Rattle.plain.specs.Steps.{Answer}
use Rattle.plain.specs.Site.{Call}
use Rattle.store.specs.Store.{Store}
use Rattle.store.specs.Calls.{State, Started}
use Rattle.store.proofs.Promise as P
use Rattle.promises.specs.Runs.{Happens, Run, start, more, wrong, FromFresh}
use Rattle.promises.proofs.Stands.{by_lengths, left, begun}

pub one_outcome : {x y z : State} {k : Call} {a b : Answer} → Happens x k y a → Happens x k z b → (y ≡ z) × (a ≡ b)
one_outcome {x} {y} {z} {k} {a} {b} d e = P.one_outcome x k y z a b d.before d.after e.after d.called e.called

pub one_fresh : {base wrk base' wrk' base'' wrk'' : List ℕ} {t u : Store} {n m : ℕ} → Started base wrk t n base' wrk'
    → Started base wrk u m base'' wrk'' → (t ≡ u) × (n ≡ m) × (base' ≡ base'') × (wrk' ≡ wrk'')
one_fresh {base} {wrk} s v =
    by_lengths base wrk
    (λ l. let p = s.right l.0 l.1 in let q = v.right l.0 l.1 in
    (s.site ∙ sym v.site, p.0 ∙ sym q.0, p.1 ∙ sym q.1, p.2 ∙ sym q.2))
    (λ w. let p = s.wrong w in let q = v.wrong w in
    (s.site ∙ sym v.site, p.0 ∙ sym q.0, p.1 ∙ sym q.1, p.2 ∙ sym q.2))

-- a run, less the calls that were given wrong cells
abbrev Steps : State → List Call → State → Type 0
Steps x [] z = z ≡ x
Steps x (k ∷ h) z = (y : State) × (a : Answer) × Steps x h y × Happens y k z a

steps : {x y : State} {h : List Call} → Run x h y → Steps x h y
steps start = refl
steps (more {y = y} k z a u d) = (y, a, steps u, d)
steps {x} (wrong {h} base wrk k z a u n d) = subst (Steps x h) (sym (left base wrk n d)) (steps u)

one_end : (x : State) (h : List Call) (y z : State) → Steps x h y → Steps x h z → y ≡ z
one_end x [] y z p q = p ∙ sym q
one_end x (k ∷ h) y z p q =
    let e = one_end x h p.0 q.0 p.2 q.2 in
    (one_outcome p.3 (subst (λ (w : State). Happens w k z q.1) (sym e) q.3)).0

pub one_run : {x y z : State} {h : List Call} → Run x h y → Run x h z → y ≡ z
one_run {x} {y} {z} {h} r u = one_end x h y z (steps r) (steps u)

pub one_run_fresh : {y z : State} {h : List Call} → FromFresh h y → FromFresh h z → y ≡ z
one_run_fresh {y} {z} {h} f g =
    let e = begun g.started ∙ sym (begun f.started) in
    one_end f.begin h y z (steps f.run) (subst (λ (x : State). Steps x h z) e (steps g.run))
