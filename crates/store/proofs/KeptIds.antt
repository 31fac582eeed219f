-- The places of kept ids: each of the last 256 numbers has its own, and a confirmation stores its id in the place of its number. Assumes nothing.
use Prim.Native.Nat.{ℕ, suc, ◌+◌, ◌-◌, ◌%◌, ◌<◌, ◌≤◌}
use native.Mathlib.Omega.{arith}
use mathlib.Core.Path.{◌≡◌, sym, ◌∙◌}
use mathlib.Core.Logic.{◌⊎◌, inl, inr}
use mathlib.Core.Option.{some}
use lib.Dec.{leb, ltb, eqb}
use mathlib.Core.List.{List}
use lib.ListN.{length, get_or, set}
use lib.Seq.{get_or-set_same, get_or-set_other}
use borrow.Author.Tests.{eqb-true, eqb-false, leb-true, leb-false, ltb-true, ltb-false}
use Rattle.plain.specs.Site.{Recent, kept_with}
use Rattle.plain.proofs.Tests.{by_test}
use Rattle.store.specs.Store.{Store}
use Rattle.store.specs.Meaning.{kept_at, under}
use Rattle.store.specs.Checks.{InUse, Spare}
use Rattle.store.specs.Sound.{Apart, Unused}

-- two of the last 256 numbers have different places
pub own_place : (top m n : ℕ) → Recent top m → Recent top n → m % 256 ≡ n % 256 → m ≡ n
own_place top m n r q e = omega (arith, r.within, r.last, q.within, q.last)

-- a place is in use or to spare
pub place_of : (top p : ℕ) → p < 256 → InUse top p ⊎ Spare top p
place_of top p l =
    by_test (leb 256 top)
    (λ y. let full = leb-true 256 top y in
    inl (top - (top + 256 - p) % 256, record { given = omega arith; within = omega arith; last = omega arith }, omega arith))
    (λ z. let few = leb-false 256 top z in
    by_test (eqb p 0)
    (λ y. let e = eqb-true p 0 y in inr (256, omega arith, omega arith, omega arith))
    (λ z. let ne = eqb-false p 0 z in
    by_test (leb p top)
    (λ y. let m = leb-true p top y in inl (p, record { given = omega arith; within = m; last = omega arith }, omega arith))
    (λ z. let m = leb-false p top z in inr (p, m, omega arith, omega arith))))

-- kept ids that differ by number differ by place, and back
module _ (top : ℕ) (kept : List ℕ) where
  pub differ_of : ((n : ℕ) → Recent top n → 0 < under kept n) → Apart 256 (λ p. get_or kept p 0)
      → (m n : ℕ) → Recent top m → Recent top n → under kept m ≡ under kept n → m ≡ n
  differ_of filled apart m n r q e =
      by_test (ltb (m % 256) (n % 256))
      (λ y. absurd (omega (arith, filled m r, apart (m % 256) (n % 256) (ltb-true _ _ y) (omega arith) e)))
      (λ z. by_test (ltb (n % 256) (m % 256))
      (λ y. absurd (omega (arith, filled n q, apart (n % 256) (m % 256) (ltb-true _ _ y) (omega arith) (sym e))))
      (λ y. own_place top m n r q (omega (arith, ltb-false (m % 256) (n % 256) z, ltb-false (n % 256) (m % 256) y))))

  pub apart_of : ((n : ℕ) → top < n → n ≤ 256 → under kept n ≡ 0) → ((m n : ℕ) → Recent top m → Recent top n → under kept m ≡ under kept n → m ≡ n)
      → Apart 256 (λ p. get_or kept p 0)
  apart_of unused differ i j l k e = go (place_of top i (omega arith)) (place_of top j k)
    where
      go : InUse top i ⊎ Spare top i → InUse top j ⊎ Spare top j → get_or kept i 0 ≡ 0
      go (inr u) v = rw (← u.3) (unused u.0 u.1 u.2)
      go (inl u) (inr v) = e ∙ rw (← v.3) (unused v.0 v.1 v.2)
      go (inl u) (inl v) =
          let same : under kept u.0 ≡ under kept v.0 = rw (u.2, v.2) e in
          absurd (omega (arith, differ u.0 v.0 u.1 v.1 same, u.2, v.2))

-- t keeps the id of number n, the next one, and what s kept
module _ (s t : Store) (n id : ℕ) (long : length s.kept ≡ 256) (next : n ≡ s.confirmations + 1) (more : t.confirmations ≡ s.confirmations + 1)
    (is : t.kept ≡ set s.kept (n % 256) id) where
  stored : kept_at t n ≡ id
  stored = rw is (get_or-set_same s.kept (n % 256) id 0 (omega arith))

  elsewhere : (m : ℕ) → (m % 256 ≡ n % 256 → ⊥) → kept_at t m ≡ kept_at s m
  elsewhere m ne = rw is (get_or-set_other s.kept (n % 256) (m % 256) id 0 ne)

  pub kept_after : (m : ℕ) → Recent t.confirmations m → kept_at t m ≡ kept_with (some id) (suc s.confirmations) (kept_at s) m
  kept_after m r =
      by_test (eqb m (suc s.confirmations))
      (λ y. let e : m ≡ n = omega (arith, eqb-true m (suc s.confirmations) y) in rw (y, e) stored)
      (λ z. let ne = eqb-false m (suc s.confirmations) z in
      rw z (elsewhere m (λ e. omega (arith, r.given, r.within, r.last))))

  pub unused_after : Unused s → Unused t
  unused_after u m l k = elsewhere m (λ e. omega arith) ∙ u m (omega arith) k
