-- A work call, a confirmation and a query leave a request in its slot, unless it was the head and is committed. Assumes nothing.
use Prim.Native.Nat.{ℕ, ◌+◌, ◌<◌, ◌≤◌}
use native.Mathlib.Omega.{arith}
use mathlib.Core.Path.{◌≡◌, refl, sym, ◌∙◌, subst}
use mathlib.Core.Logic.{◌⊎◌, inl, inr}
use mathlib.Core.Bool.{true, false}
use mathlib.Core.Option.{Option, none, some}
use mathlib.Core.List.{List, [], ◌∷◌}
use lib.ListN.{length}
use borrow.Author.Tests.{eqb-true, leb-true, leb-false, ltb-true}
use Rattle.plain.specs.Queue.{Entry, Item, booking, reading, id_of, ops_of, is_executed, id_is, is_confirmed, left, any, count, entry_of, without, before_waiting}
use Rattle.plain.specs.Steps.{Class, Did, committed, tried, advanced, work_on, work_step, idle}
use Rattle.plain.specs.Steps.{with_number, numbered, as_put_back, backed, moved, confirm_on, confirm_step, query_on, query_step}
use Rattle.plain.specs.Sound.{All, Untouched, Belongs, AtHead, Working, SoundClass}
use Rattle.plain.proofs.Tests.{by_test, no}
use Rattle.plain.proofs.Items.{is_valid}
use Rattle.plain.proofs.Queues.{all_first, first_passes, first_put, first_before, first_drop}
use Rattle.plain.proofs.Queues.{count_some, count_drop}
use Rattle.plain.proofs.Confirming.{moved_is}

-- Under the id i the queue has the request of x, in the slot of x
abbrev pub Stands : ℕ → Entry → List Item → Type 0
Stands i x q = (y : Entry) × (entry_of i q ≡ some (booking y)) × (y.request ≡ x.request) × (y.slot ≡ x.slot)

-- the head x is committed under n and leaves the queue
pub record Off (k : Class) (d : Did) (x : Entry) (n : ℕ) : Type 0 where
  pub behind : k.queue ≡ booking x ∷ d.class.queue
  pub mark : ℕ
  pub says : d.answer ≡ committed (id_of x) n mark x.slot x.backs

-- WORK leaves it there, unless it does the last operation of the confirmed head
abbrev pub AfterWork : ℕ → Class → Did → Entry → Type 0
AfterWork i k d x = Stands i x d.class.queue ⊎ (Off k d x x.number × (0 < x.number) × (left (booking x) ≡ 1))

pub work_stands : (i : ℕ) (k : Class) (x : Entry) → idle k.queue ≡ false → entry_of i k.queue ≡ some (booking x) → AfterWork i k (work_step k) x
unfolding work_step
work_stands i k x z en = go k.queue refl z en
  where
    go : (q : List Item) → k.queue ≡ q → idle q ≡ false → entry_of i q ≡ some (booking x) → AfterWork i k (work_on q k.committed k.working) x
    go [] is z en = no _ refl z
    go (reading p b ∷ rest) is z en = inl (x, en, refl, refl)
    go (booking e ∷ rest) is z en =
        by_test (id_is i (booking e))
        (λ y. let p : e ≡ x = cc (rw y at en) in subst (AfterWork i k d) p (head y))
        (λ f. other f (rw f at en))
      where
        d : Did
        d = work_on (booking e ∷ rest) k.committed k.working

        e' : Entry
        e' = advanced e (tried e k.working)

        head : id_is i (booking e) ≡ true → AfterWork i k d e
        head y =
            by_test (is_executed (booking e'))
            (λ v. by_test (is_confirmed (booking e))
            (λ t. rw (v, t) (inr (record { behind = is; mark = e'.mark; says = refl }, ltb-true 0 e.number t, omega (arith, leb-true, leb-false))))
            (λ f. rw (v, f) (inl (e', rw y, refl, refl))))
            (λ v. rw v (inl (e', rw y, refl, refl)))

        other : id_is i (booking e) ≡ false → entry_of i rest ≡ some (booking x) → AfterWork i k d x
        other f en =
            by_test (is_executed (booking e'))
            (λ v. by_test (is_confirmed (booking e))
            (λ t. rw (v, t) (inl (x, en, refl, refl)))
            (λ g. rw (v, g) (inl (x, rw f en, refl, refl))))
            (λ v. rw v (inl (x, rw f en, refl, refl)))

-- CONFIRM leaves it there, unless it numbers it as the executed head
abbrev pub AfterConfirm : ℕ → ℕ → ℕ → Class → Did → Entry → Type 0
AfterConfirm i m n k d x = Stands i x d.class.queue ⊎ (Off k d x n × (m ≡ i) × (is_executed (booking x) ≡ true))

moved_stands : (i : ℕ) (x : Entry) (m n : ℕ) (q : List Item) → count (id_is i) q ≤ 1 → Stands i x q → Stands i x (moved m n q)
moved_stands i x m n q o u = go (entry_of m q) refl
  where
    none_else : (e : Item) → entry_of m q ≡ some e → id_is i e ≡ true → any (id_is i) (without m q) ≡ false
    none_else e en t =
        by_test (any (id_is i) (without m q))
        (λ y. let c = count_drop (id_is i) (id_is m) q e en in let c' : count (id_is i) (without m q) + 1 ≡ count (id_is i) q = rw t at c in
        absurd (omega (arith, count_some (id_is i) (without m q) y)))
        (λ f. f)

    go : (o : Option Item) → entry_of m q ≡ o → Stands i x (moved m n q)
    go none en = rw (en, moved) u
    go (some (reading p b)) en = no _ (first_passes (id_is m) q (reading p b) en) refl
    go (some (booking e)) en =
        rw (moved_is m n q (booking e) en) (by_test (id_is i (booking e))
        (λ t. let p : m ≡ i = sym (eqb-true _ m (first_passes (id_is m) q (booking e) en)) ∙ eqb-true _ i t in
        let en' : entry_of i q ≡ some (booking e) = rw p at en in
        let is : u.0 ≡ e = cc u.1 in (
          with_number n e,
          first_put (id_is i) (numbered n (booking e)) (without m q) t (none_else (booking e) en t),
          rw is at u.2,
          rw is at u.3,
        ))
        (λ f. (
          u.0,
          first_before (id_is i) (numbered n (booking e)) (without m q) f ∙ first_drop (id_is i) (id_is m) q (booking e) en f ∙ u.1,
          u.2,
          u.3,
        )))

backed_stands : (i : ℕ) (x h : Entry) (rest : List Item) → Stands i x (booking h ∷ rest) → Stands i x (backed (booking h) ∷ rest)
backed_stands i x h rest u =
    by_test (is_confirmed (booking h))
    (λ t. rw t u)
    (λ f. rw f (by_test (id_is i (booking h))
    (λ y. let is : h ≡ u.0 = cc (rw y at u.1) in (as_put_back h, rw y, rw is u.2, rw is u.3))
    (λ g. (u.0, rw g (rw g at u.1), u.2, u.3))))

pub confirm_stands : (i m n : ℕ) (k : Class) (x : Entry) → count (id_is i) k.queue ≤ 1 → entry_of i k.queue ≡ some (booking x)
    → AfterConfirm i m n k (confirm_step m n k) x
unfolding confirm_step
confirm_stands i m n k x o en = go k.queue refl o en
  where
    go : (q : List Item) → k.queue ≡ q → count (id_is i) q ≤ 1 → entry_of i q ≡ some (booking x) → AfterConfirm i m n k (confirm_on m n q k.committed k.working) x
    go [] is o en = let z : ◌≡◌ {A = ℕ} 0 1 = cc in absurd (omega arith)
    go (reading p b ∷ rest) is o en = inl (moved_stands i x m n (reading p b ∷ rest) o (x, en, refl, refl))
    go (booking h ∷ rest) is o en =
        by_test (id_is m (booking h))
        (λ y. by_test (is_executed (booking h))
        (λ v. rw (y, v) (by_test (id_is i (booking h))
        (λ t. let p : h ≡ x = cc (rw t at en) in
        inr (record { behind = rw (← p) is; mark = h.mark; says = rw p }, sym (eqb-true _ m y) ∙ eqb-true _ i t, rw (← p) v))
        (λ f. inl (x, rw f at en, refl, refl))))
        (λ v. rw (y, v) (inl (moved_stands i x m n (booking h ∷ rest) o (x, en, refl, refl)))))
        (λ y. rw y (inl (moved_stands i x m n (backed (booking h) ∷ rest) o' (backed_stands i x h rest (x, en, refl, refl)))))
      where
        o' : count (id_is i) (backed (booking h) ∷ rest) ≤ 1
        o' = by_test (is_confirmed (booking h)) (λ t. rw t o) (λ f. rw f o)

-- and so does a query
pub query_stands : (i p n : ℕ) (k : Class) (x : Entry) → entry_of i k.queue ≡ some (booking x) → Stands i x (query_step p n k).queue
unfolding query_step
query_stands i p n k x en = go k.queue en
  where
    entered : (q : List Item) → Stands i x q → Stands i x (before_waiting (reading p n) q)
    entered q u = (u.0, first_before (id_is i) (reading p n) q refl ∙ u.1, u.2, u.3)

    go : (q : List Item) → entry_of i q ≡ some (booking x) → Stands i x (query_on (reading p n) q k.committed k.working).queue
    go [] en = let z : ◌≡◌ {A = ℕ} 0 1 = cc in absurd (omega arith)
    go (reading p' n' ∷ rest) en = entered (reading p' n' ∷ rest) (x, en, refl, refl)
    go (booking h ∷ rest) en = entered (backed (booking h) ∷ rest) (backed_stands i x h rest (x, en, refl, refl))

-- What stands in a sound class has not both finished its work and been confirmed
pub never_both : (c top i : ℕ) (k : Class) (x : Entry) → SoundClass c top k → entry_of i k.queue ≡ some (booking x)
    → is_executed (booking x) ≡ true → is_confirmed (booking x) ≡ true → ⊥
never_both c top i k x s en v t = go k.queue s.belong s.working en
  where
    go : (q : List Item) → All (Belongs c) q → Working q k.committed k.working → entry_of i q ≡ some (booking x) → ⊥
    go [] b w en = let z : ◌≡◌ {A = ℕ} 0 1 = cc in absurd (omega arith)
    go (h ∷ rest) b w en =
        let d : length (ops_of x) ≤ x.done = leb-true _ _ v in
        by_test (id_is i h)
        (λ y. let p : h ≡ booking x = cc (rw y at en) in
        let m : AtHead (booking x) k.committed k.working = rw p at w.0 in omega (arith, m.unfinished (ltb-true 0 x.number t)))
        (λ f. let en' : entry_of i rest ≡ some (booking x) = rw f at en in
        let a = is_valid x.request (all_first (Belongs c) (id_is i) rest (booking x) en' b.1).valid in
        let u = all_first Untouched (id_is i) rest (booking x) en' w.1 in omega arith)
