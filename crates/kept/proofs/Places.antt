-- The places of kept ids: which are in use, what they hold, and what marks tell of them. Assumes nothing.
use Prim.Native.Nat.{ℕ, ◌+◌, ◌%◌, ◌<◌, ◌≤◌}
use native.Mathlib.Omega.{arith}
use mathlib.Core.Path.{◌≡◌, sym, ap, ◌∙◌}
use mathlib.Core.Logic.{◌⊎◌, inl, inr}
use mathlib.Core.Bool.{Bool, true, false, not, beq}
use mathlib.Core.List.{List}
use lib.Dec.{eqb}
use lib.ListN.{length, get_or, set}
use lib.Seq.{get_or-set_same, get_or-set_other}
use borrow.Author.Tests.{eqb-true, eqb-false, eq-eqb, ne_eqb, not-true}
use Rattle.plain.specs.Decides.{Decides}
use Rattle.plain.specs.Site.{Recent}
use Rattle.plain.proofs.Tests.{by_test, no}
use Rattle.plain.proofs.Deciding.{holds}
use Rattle.store.proofs.Agree.{decides_flags}
use Rattle.store.specs.Meaning.{under}
use Rattle.store.specs.Sound.{Apart}
use Rattle.store.specs.Checks.{InUse, Spare, Filled, KeptApart, Among, MatchesAll}
use Rattle.store.proofs.KeptIds.{place_of, differ_of}
use Rattle.kept.specs.Marks.{MarkedUpTo}

-- no place is both in use and to spare
pub not_both : (top p : ℕ) → InUse top p → Spare top p → ⊥
not_both top p u v = omega (arith, u.1.given, u.1.within, u.2, v.1, v.2, v.3)

pub all_in_use : (top p : ℕ) → 256 ≤ top → p < 256 → InUse top p
all_in_use top p full l = go (place_of top p l)
  where
    go : InUse top p ⊎ Spare top p → InUse top p
    go (inl u) = u
    go (inr v) = absurd (omega (arith, v.1, v.2))

-- before 256 numbers were given they stand from place 1 on
pub first_spare : (top : ℕ) → top < 256 → InUse top 0 → ⊥
first_spare top few u = not_both top 0 u (256, few, omega arith, omega arith)

pub used_from_one : (top p : ℕ) → 0 < p → p ≤ top → top < 256 → InUse top p
used_from_one top p l m few = (p, record { given = l; within = m; last = omega arith }, omega arith)

pub spare_past : (top p : ℕ) → top < p → p < 256 → InUse top p → ⊥
spare_past top p l m u = not_both top p u (p, l, omega arith, omega arith)

-- a place holds an id exactly if it is in use
abbrev pub PlaceFilled : ℕ → List ℕ → ℕ → Type 0
PlaceFilled top kept p = (InUse top p → 0 < get_or kept p 0) × ((InUse top p → ⊥) → get_or kept p 0 ≡ 0)

-- as a comparison of two flags has it
module _ (top : ℕ) (kept : List ℕ) (p : ℕ) (b : Bool) (d : Decides b (InUse top p)) where
  abbrev held : Bool
  held = not (eqb (get_or kept p 0) 0)

  pub flag_filled : beq b held ≡ true → PlaceFilled top kept p
  flag_filled e =
      let same : b ≡ held = (decides_flags b held).yes e in (
        (λ u. let ne = eqb-false (get_or kept p 0) 0 (not-true _ (sym same ∙ holds d u)) in omega arith),
        (λ n. by_test (eqb (get_or kept p 0) 0) (λ y. eqb-true _ 0 y) (λ f. absurd (n (d.yes (same ∙ rw f))))),
      )

  pub filled_flag : PlaceFilled top kept p → beq b held ≡ false → ⊥
  filled_flag h f = (decides_flags b held).no f (by_test b
      (λ t. let l = h.0 (d.yes t) in t ∙ rw (ne_eqb (get_or kept p 0) 0 (λ z. omega arith)))
      (λ g. g ∙ rw (eq-eqb (get_or kept p 0) 0 (h.1 (d.no g)))))

module _ (top : ℕ) (kept : List ℕ) where
  pub filled_of : ((p : ℕ) → p < 256 → PlaceFilled top kept p) → Filled top kept
  filled_of h = record {
    not_zero = λ n r. (h (n % 256) (omega arith)).0 (n, r, omega arith);
    unused = λ n l m. (h (n % 256) (omega arith)).1 (λ u. not_both top (n % 256) u (n, l, m, omega arith));
  }

  pub filled_at : Filled top kept → (p : ℕ) → p < 256 → PlaceFilled top kept p
  filled_at f p l = ((λ u. rw (← u.2) (f.not_zero u.0 u.1)), (λ n. go n (place_of top p l)))
    where
      go : (InUse top p → ⊥) → InUse top p ⊎ Spare top p → get_or kept p 0 ≡ 0
      go n (inl u) = absurd (n u)
      go n (inr v) = rw (← v.3) (f.unused v.0 v.1 v.2)

  -- a kept id that stands somewhere stands under a number
  pub found : Filled top kept → (id : ℕ) → 0 < id → Among kept 256 id → (n : ℕ) × Recent top n × (under kept n ≡ id)
  found f id l a = go (place_of top a.0 a.1)
    where
      go : InUse top a.0 ⊎ Spare top a.0 → (n : ℕ) × Recent top n × (under kept n ≡ id)
      go (inl u) = (u.0, u.1, rw u.2 a.2)
      go (inr v) = let z : get_or kept a.0 0 ≡ 0 = rw (← v.3) (f.unused v.0 v.1 v.2) in absurd (omega (arith, a.2))

  -- THE RULE OF A REQUEST: its number is kept, or its id is not
  module _ (f : Filled top kept) (apart : KeptApart kept) (number id : ℕ) (pos : 0 < id) where
    pub number_kept : Recent top number → id ≡ under kept number → MatchesAll top kept number id
    number_kept r e n q = ((λ z. rw (← z) e), (λ z. differ_of top kept f.not_zero apart number n r q (sym e ∙ z)))

    pub id_free : (Among kept 256 id → ⊥) → (Recent top number → ⊥) → MatchesAll top kept number id
    id_free a m n q = ((λ z. absurd (m (rw z q))), (λ z. absurd (a (n % 256, omega arith, sym z))))

    pub has_number : Among kept 256 id → MatchesAll top kept number id → Recent top number
    has_number a h = let u = found f id pos a in rw ((h u.0 u.1).1 (sym u.2)) u.1

-- MARKS: one more, and what an unset mark tells
pub mark_more : (kept marks : List ℕ) (p : ℕ) → length marks ≡ 4096 → MarkedUpTo kept marks p → MarkedUpTo kept (set marks (get_or kept p 0 % 4096) 1) (p + 1)
mark_more kept marks p n h k l =
    by_test (eqb (get_or kept k 0 % 4096) (get_or kept p 0 % 4096))
    (λ y. let e = eqb-true (get_or kept k 0 % 4096) (get_or kept p 0 % 4096) y in rw (e, get_or-set_same marks (get_or kept p 0 % 4096) 1 0 (omega arith)) (omega arith))
    (λ f. let ne = eqb-false (get_or kept k 0 % 4096) (get_or kept p 0 % 4096) f in
    rw (get_or-set_other marks (get_or kept p 0 % 4096) (get_or kept k 0 % 4096) 1 0 ne) (h k (before ne)))
  where
    before : (get_or kept k 0 % 4096 ≡ get_or kept p 0 % 4096 → ⊥) → k < p
    before ne = by_test (eqb k p) (λ y. absurd (ne (ap (λ (j : ℕ). get_or kept j 0 % 4096) (eqb-true k p y)))) (λ f. let m = eqb-false k p f in omega arith)

pub unmarked : (kept marks : List ℕ) (n id : ℕ) → MarkedUpTo kept marks n → get_or marks (id % 4096) 0 ≡ 0 → Among kept n id → ⊥
unmarked kept marks n id h z a = let m = h a.0 a.1 in omega (arith, rw a.2 at m)

-- one place more: its id is 0, or not among those before
pub apart_more : (f : ℕ → ℕ) (p : ℕ) → Apart p f → (f p ≡ 0) ⊎ ((i : ℕ) → i < p → f i ≡ f p → ⊥) → Apart (p + 1) f
apart_more f p h new i j l m e = by_test (eqb j p) (λ y. last (eqb-true j p y)) (λ g. let ne = eqb-false j p g in h i j l (omega arith) e)
  where
    last : j ≡ p → f i ≡ 0
    last y = elim new [ inl z ↦ e ∙ rw y z | inr n ↦ absurd (n i (omega arith) (rw (← y) e)) ]

-- an id that is not among those before is 0 or new
pub new : (kept : List ℕ) (p : ℕ) → ((0 < get_or kept p 0) × Among kept p (get_or kept p 0) → ⊥)
    → (get_or kept p 0 ≡ 0) ⊎ ((i : ℕ) → i < p → get_or kept i 0 ≡ get_or kept p 0 → ⊥)
new kept p n =
    by_test (eqb (get_or kept p 0) 0)
    (λ y. inl (eqb-true _ 0 y))
    (λ f. let ne = eqb-false (get_or kept p 0) 0 f in inr (λ i l e. n (omega arith, (i, l, e))))

-- a slot is used exactly if it has an id
pub some_id : (i : ℕ) → (i ≡ 0 → ⊥) → not (eqb i 0) ≡ true
some_id i ne = rw (ne_eqb i 0 ne)

pub no_id : (i : ℕ) → i ≡ 0 → not (eqb i 0) ≡ true → ⊥
no_id i z u = no _ u (rw (eq-eqb i 0 z))
