-- A run of calls on a sound site stands for the same calls on the plain site: each step is the contract's, and a plain call cannot tell sites
-- that are the same apart. Assumes nothing.
use Prim.Native.Nat.{ℕ}
use native.Mathlib.Omega.{arith}
use mathlib.Core.Path.{◌≡◌, refl, sym, ap, ◌∙◌, subst}
use mathlib.Core.Logic.{◌⊎◌, inl, inr}
use mathlib.Core.List.{List, ◌∷◌}
use lib.Dec.{eqb}
use lib.ListN.{length, replicate, length-replicate}
use borrow.Author.Tests.{eqb-true, eqb-false}
use Rattle.plain.specs.Steps.{Answer}
use Rattle.plain.specs.Site as P
use Rattle.plain.specs.Site.{Call, call, accepts}
use Rattle.plain.specs.History.{after_from, works_from}
use Rattle.plain.specs.Sound.{SoundSite}
use Rattle.plain.proofs.Tests.{by_test}
use Rattle.store.specs.Store.{Store, Shaped}
use Rattle.store.specs.Meaning.{Same}
use Rattle.store.specs.Calls.{State, RightCells, SoundState, Did, Refused, Started, plain_of, fresh}
use Rattle.store.proofs.Decided.{sound_decided}
use Rattle.store.proofs.Fresh.{fresh_sound, fresh_means}
use Rattle.store.proofs.Meant.{to_plain}
use Rattle.store.proofs.Promise.{same_trans}
use Rattle.store.proofs.Same.{same_answer, same_call}
use Rattle.promises.specs.Runs.{Happens, Ready, is_accepted, Accepted, on_cells, Run, start, more, wrong, works_in, FromFresh}
use Rattle.promises.proofs.Answers.{accepts_is, never_refused}

-- whether runs have the right lengths is decided, and so the three cases of the contract are all
pub by_lengths : {X : Type 0} (base wrk : List ℕ) → ((length base ≡ 1024) × (length wrk ≡ 1024) → X)
    → (((length base ≡ 1024) × (length wrk ≡ 1024) → ⊥) → X) → X
by_lengths base wrk f g =
    by_test (eqb (length base) 1024)
    (λ t. by_test (eqb (length wrk) 1024)
    (λ u. f (eqb-true _ _ t, eqb-true _ _ u))
    (λ n. g (λ r. eqb-false (length wrk) 1024 n r.1)))
    (λ n. g (λ r. eqb-false (length base) 1024 n r.0))

pub by_contract : {X : Type 0} {x y : State} {k : Call} {a : Answer} → Happens x k y a → (Ready x → Did x k y a → X)
    → ((n : ℕ) → Refused n x y a → X) → X
by_contract {X} {x} {y} {k} {a} e f g =
    by_lengths x.committed x.working
    (λ r. go r (sound_decided x.site e.before x.committed x.working))
    (λ n. g 1 (e.called.wrong_cells n))
  where
    go : RightCells x → SoundState x ⊎ (SoundState x → ⊥) → X
    go r (inl s) = f (r, s) (e.called.did r s)
    go r (inr n) = g 2 (e.called.unsound r n)

-- an accepted call found right cells and a sound site
pub acted : {x y : State} {k : Call} {a : Answer} → Happens x k y a → Accepted a → Ready x
acted {a = a} e t = by_contract e (λ r d. r) (λ n d. never_refused a n t d.answer)

pub plain_sound : {x : State} → Shaped x.site → SoundState x → SoundSite (plain_of x)
plain_sound {x} v s = to_plain x.site v.slots v.queries s.laid x.committed x.working s

-- a call that was given wrong cells leaves the run where it was
pub left : {y z : State} {k : Call} {a : Answer} (base wrk : List ℕ) → (RightCells (on_cells y base wrk) → ⊥) → Happens (on_cells y base wrk) k z a
    → on_cells z y.committed y.working ≡ y
left {y} base wrk n e = ap (λ (w : State). on_cells w y.committed y.working) (e.called.wrong_cells n).untouched

-- A RUN STANDS for a history
pub record Stands (s : P.Site) (h : List Call) (y : State) : Type 0 where
  pub cells : RightCells y
  pub sound : SoundState y
  pub same : Same (plain_of y) (after_from s h)

-- and what any call answers there
pub answers_there : {s : P.Site} {h : List Call} {y z : State} {k : Call} {a : Answer} → Stands s h y → Happens y k z a
    → (a ≡ (call (after_from s h) k).answer) × Stands s (k ∷ h) z
answers_there {s} {h} {y} {z} {k} {a} i e =
    let d = e.called.did i.cells i.sound in (
      d.answer ∙ same_answer (plain_of y) (after_from s h) i.same k,
      record { cells = d.cells; sound = d.sound; same = same_trans d.site (same_call (plain_of y) (after_from s h) i.same k) },
    )

module _ {x : State} {s : P.Site} (r : Ready x) (e : Same (plain_of x) s) where
  pub stands : {h : List Call} {y : State} → Run x h y → Stands s h y
  stands start = record { cells = r.0; sound = r.1; same = e }
  stands (more k z a u d) = (answers_there (stands u) d).1
  stands (wrong {h} base wrk k z a u n d) = subst (Stands s h) (sym (left base wrk n d)) (stands u)

  -- its accepted work calls are the history's
  pub works_counted : {h : List Call} {y : State} (c : ℕ) (u : Run x h y) → works_in c u ≡ works_from s c h
  unfolding works_in works_from
  works_counted c start = refl
  works_counted c (more {h} k z a u d) =
      let t : is_accepted a ≡ accepts (after_from s h) k = ap is_accepted (answers_there (stands u) d).0 ∙ accepts_is (after_from s h) k in
      rw (works_counted c u, t)
  works_counted c (wrong base wrk k z a u n d) = works_counted c u

-- FROM FRESH
abbrev zeroed : State
zeroed = record { site = fresh; committed = replicate 1024 0; working = replicate 1024 0 }

pub begun : {base wrk base' wrk' : List ℕ} {t : Store} → Started base wrk t 0 base' wrk'
    → ◌≡◌ {A = State} (record { site = t; committed = base'; working = wrk' }) zeroed
begun {base} {wrk} {base'} {wrk'} {t} s =
    by_lengths base wrk
    (λ l. let q = s.right l.0 l.1 in λ i. record { site = s.site i; committed = q.1 i; working = q.2 i })
    (λ n. let z = (s.wrong n).0 in absurd (omega arith))

pub begins : {x : State} → x ≡ zeroed → Ready x × Same (plain_of x) P.fresh
begins e = rw e (((length-replicate {A = ℕ} 1024 0, length-replicate {A = ℕ} 1024 0), fresh_sound (replicate 1024 0)), fresh_means)

pub stands_fresh : {h : List Call} {y : State} → FromFresh h y → Stands P.fresh h y
stands_fresh f = let b = begins (begun f.started) in stands b.0 b.1 f.run
