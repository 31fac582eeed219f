-- A fresh site is sound, every call leaves a sound site sound and its cells right, from fresh the requests accepted are the commits plus the
-- requests queued, W is at most 896, and a mark at most 7. Assumes nothing.
use Prim.Native.Nat.{ℕ, ◌+◌, ◌≤◌}
use native.Mathlib.Omega.{arith}
use mathlib.Core.Path.{◌≡◌, sym, ap, ◌∙◌, subst, refl}
use mathlib.Core.Bool.{Bool, true, false}
use mathlib.Core.List.{List}
use Rattle.plain.specs.Sizes.{most_ops, most_w}
use Rattle.plain.specs.Ops.{Request}
use Rattle.plain.specs.Queue.{Item, Entry, booking, reading, count, owed}
use Rattle.plain.specs.Steps.{Answer, refused, committed, to_do, unconfirmed}
use Rattle.plain.specs.Site as P
use Rattle.plain.specs.Site.{Call, confirm, look, call, act, accepts, refusal, standing, class_of, entry_at, confirmed_at, backs_at}
use Rattle.plain.specs.Sound.{SoundSite}
use Rattle.plain.specs.History.{after, offers, commits}
use Rattle.plain.specs.Demands.{w_of}
use Rattle.plain.proofs.Tests.{by_test}
use Rattle.plain.proofs.Sites.{look_accepted}
use Rattle.plain.proofs.Bounds as B
use Rattle.plain.proofs.Logs as L
use Rattle.store.specs.Store.{Store}
use Rattle.store.specs.Calls.{State, RightCells, SoundState, Started, plain_of}
use Rattle.store.proofs.Promise.{same_standing}
use Rattle.promises.specs.Runs.{asks, Happens, Ready, FromFresh}
use Rattle.promises.proofs.Answers.{refused_answers}
use Rattle.promises.proofs.Stands.{by_contract, plain_sound, begun, begins, answers_there, stands_fresh}

-- SOUND SITES
pub fresh_ready : {base wrk base' wrk' : List ℕ} {t : Store} → Started base wrk t 0 base' wrk'
    → Ready (record { site = t; committed = base'; working = wrk' })
fresh_ready s = (begins (begun s)).0

pub stays_sound : {x y : State} {k : Call} {a : Answer} → Happens x k y a → SoundState x → SoundState y
stays_sound e s = by_contract e (λ _ d. d.sound) (λ n d. subst SoundState (sym d.untouched) s)

pub stays_right : {x y : State} {k : Call} {a : Answer} → Happens x k y a → RightCells x → RightCells y
stays_right e r = by_contract e (λ _ d. d.cells) (λ n d. subst RightCells (sym d.untouched) r)

-- FROM FRESH
pub answers : {h : List Call} {y z : State} {k : Call} {a : Answer} → FromFresh h y → Happens y k z a → a ≡ (call (after h) k).answer
unfolding after
answers f e = (answers_there (stands_fresh f) e).0

-- a test that only such requests pass is that one
same_test : (f : Request → Bool) (g : Item → Bool) → ((e : Entry) → g (booking e) ≡ f e.request) → ((p b : ℕ) → g (reading p b) ≡ false) → g ≡ asks f
same_test f g h k = λ i. λ x. each x i
  where
    each : (x : Item) → g x ≡ asks f x
    each (booking e) = h e
    each (reading p b) = k p b

pub accepted : {h : List Call} {y : State} → FromFresh h y → (f : Request → Bool)
    → count f (offers h) ≡ count f (commits h) + standing (asks f) (plain_of y)
unfolding after
accepted {h} {y} u f =
    let q = same_standing (plain_of y) (after h) (stands_fresh u).same (asks f) in
    L.accepted f h ∙ ap (λ (g : Item → Bool). count f (commits h) + standing g (after h)) (same_test f _ (λ e. refl) (λ p b. refl))
    ∙ ap (λ (n : ℕ). count f (commits h) + n) (sym q)

-- W, where the call acts; a refusal says 0
pub w_bounded : {x y : State} {i n : ℕ} {a : Answer} → Happens x (confirm i n) y a → w_of a ≤ most_w
w_bounded {x} {i = i} {n = n} e =
    by_contract e
    (λ r d. rw d.answer (B.confirm_bounded (plain_of x) (plain_sound e.before r.1) i n))
    (λ m d. rw d.answer (omega arith))

look_w : (s : P.Site) → SoundSite s → (i w b : ℕ) → to_do w b ≡ (call s (look i)).answer → w ≤ most_w
unfolding call act
look_w s q i w b e =
    by_test (accepts s (look i))
    (λ t. there t (rw t at e))
    (λ f. let z : to_do w b ≡ refused (refusal s (look i)) = e ∙ refused_answers s (look i) f in
    let y : ◌≡◌ {A = ℕ} 0 1 = cc in absurd (omega arith))
  where
    there : accepts s (look i) ≡ true → to_do w b ≡ (act s (look i)).answer → w ≤ most_w
    there t e =
        by_test (confirmed_at (entry_at s i))
        (λ c. let z : to_do w b ≡ to_do (owed i (s.class (class_of s i)).queue) (backs_at (entry_at s i)) = rw c at e in
        let v : w ≡ owed i (s.class (class_of s i)).queue = cc in
        omega (arith, v, B.w_bounded s q (class_of s i) (look_accepted s i t) i))
        (λ c. let z : to_do w b ≡ unconfirmed (backs_at (entry_at s i)) = rw c at e in let y : ◌≡◌ {A = ℕ} 0 1 = cc in absurd (omega arith))

pub left_bounded : {x y : State} {i w b : ℕ} → Happens x (look i) y (to_do w b) → w ≤ most_w
left_bounded {x} {i = i} {w = w} {b = b} e =
    by_contract e
    (λ r d. look_w (plain_of x) (plain_sound e.before r.1) i w b d.answer)
    (λ m d. let z : to_do w b ≡ refused m = d.answer in let y : ◌≡◌ {A = ℕ} 0 1 = cc in absurd (omega arith))

-- the mark, where the call commits
pub mark_bounded : {x y : State} {k : Call} {i n m j b : ℕ} → Happens x k y (committed i n m j b) → m ≤ most_ops
mark_bounded {x} {k = k} {i = i} {n = n} {m = m} {j = j} {b = b} e =
    by_contract e
    (λ r d. B.mark_bounded (plain_of x) (plain_sound e.before r.1) k i n m j b (sym d.answer))
    (λ r d. let z : committed i n m j b ≡ refused r = d.answer in let y : ◌≡◌ {A = ℕ} 0 1 = cc in absurd (omega arith))
