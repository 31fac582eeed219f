-- The count of slots that hold a number: as the check counts them, and that it is the count of confirmed requests queued. Assumes nothing.
use Prim.Native.Nat.{ℕ, ◌+◌}
use native.Mathlib.Omega.{arith}
use native.Mathlib.Numerals.{add-one}
use mathlib.Core.Path.{◌≡◌, refl, ◌∙◌}
use mathlib.Core.Logic.{◌⊎◌, inl, inr}
use mathlib.Core.Bool.{cond}
use lib.Dec.{eqb, ltb}
use borrow.Author.Tests.{eqb-true, eqb-false, eq-eqb, ne_eqb, lt-ltb, le-ltb}
use Rattle.plain.specs.Queue.{has_number, count}
use Rattle.plain.specs.Site.{sum}
use Rattle.plain.proofs.Tests.{by_test}
use Rattle.plain.proofs.Sums.{sum_same}
use Rattle.slots.specs.Meaning.{slot_free, slot_at}
use Rattle.slots.specs.Rules.{Holds}
use Rattle.store.specs.Store.{Store, Shaped}
use Rattle.store.specs.Meaning.{queue_of}
use Rattle.store.specs.Sound.{SlotsOk, Once}
use Rattle.store.specs.Checks.{numbered, numbers_of}
use Rattle.store.proofs.Canonical.{has_id}
use Rattle.store.proofs.Standing.{passing, standing_is}

module _ (number : ℕ → ℕ) (i : ℕ) where
  pub one_numbered : (number i ≡ 0 → ⊥) → numbered number (i + 1) ≡ numbered number i + 1
  unfolding numbered sum
  one_numbered n = rw (add-one, ne_eqb (number i) 0 n)

  pub not_numbered : number i ≡ 0 → numbered number (i + 1) ≡ numbered number i
  unfolding numbered sum
  not_numbered e = rw (add-one, eq-eqb (number i) 0 e) (omega arith)

pub none_numbered : (number : ℕ → ℕ) → 0 ≡ numbered number 0
unfolding numbered sum
none_numbered number = refl

pub queued_confirmed : (s : Store) → Shaped s → SlotsOk s → Once s → sum (λ c. count has_number (queue_of s c)) 16 ≡ numbered (numbers_of s.slots) 128
unfolding numbered
queued_confirmed s w ok once = standing_is s w.slots w.queries ok once has_number (λ p n. refl) ∙ sum_same _ _ 128 (λ i l. each i (ok i l))
  where
    by_number : (n : ℕ) → ◌≡◌ {A = ℕ} (cond (ltb 0 n) 1 0) (cond (eqb n 0) 0 1)
    by_number n = by_test (eqb n 0)
        (λ t. let e = eqb-true n 0 t in rw (t, le-ltb 0 n (omega arith)))
        (λ f. let ne = eqb-false n 0 f in rw (f, lt-ltb 0 n (omega arith)))

    each : (i : ℕ) → (slot_at s.slots i ≡ slot_free) ⊎ Holds (slot_at s.slots i) → passing s w.slots has_number i ≡ cond (eqb (slot_at s.slots i).number 0) 0 1
    each i (inl e) = rw e
    each i (inr v) = let n = has_id (slot_at s.slots i) v in rw (ne_eqb (slot_at s.slots i).id 0 (omega arith)) (by_number (slot_at s.slots i).number)
