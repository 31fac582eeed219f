-- The order of a queue by its places: no line is above the count of confirmations, and each place may stand behind the one before it; this is the rule
-- of the queue, both ways. Assumes nothing.
use Prim.Native.Nat.{ℕ, zero, suc, ◌-◌, ◌<◌, ◌≤◌}
use native.Mathlib.Omega.{arith}
use mathlib.Core.Path.{◌≡◌, refl, sym, ◌∙◌}
use mathlib.Core.Logic.{◌⊎◌, inl, inr}
use mathlib.Core.Bool.{true, false}
use mathlib.Core.List.{List, [], ◌∷◌}
use lib.Dec.{ltb}
use lib.ListN.{length, get_or}
use borrow.Author.Tests.{ltb-true, ltb-false}
use Rattle.plain.specs.Queue.{Item, is_confirmed, line}
use Rattle.plain.specs.Sound.{All, InOrder, Waiting, Follows, Untouched}
use Rattle.plain.proofs.Tests.{by_test, no}
use Rattle.plain.proofs.Items.{follows_confirmed, waiting_unconfirmed}
use Rattle.slots.specs.Meaning.{slot_at}
use Rattle.store.specs.Store.{Store, query_at}
use Rattle.store.specs.Meaning.{item_at, items}
use Rattle.store.specs.Sound.{Rest}
use Rattle.store.specs.Checks.{Behind, confirmed_at, line_at, done_in, mark_in}

module _ (s : Store) (top : ℕ) where
  abbrev it : ℕ → Item
  it b = item_at s.slots s.queries b

  abbrev its : List ℕ → List Item
  its ps = items s.slots s.queries ps

  abbrev After : ℕ → ℕ → Type 0
  After x y = Behind (line_at s) (done_in s.slots) (mark_in s.slots) x y

  abbrev pub Bounded : List ℕ → Type 0
  Bounded ps = (p : ℕ) → p < length ps → line_at s (get_or ps p 0) ≤ top

  abbrev pub Linked : List ℕ → Type 0
  Linked ps = (p : ℕ) → suc p < length ps → After (get_or ps p 0) (get_or ps (suc p) 0)

  -- what a place names
  confirmed_is : (b : ℕ) → is_confirmed (it b) ≡ confirmed_at s b
  confirmed_is b = by_test (ltb b 128) (λ t. rw t) (λ f. rw f)

  line_is : (b : ℕ) → line (it b) ≡ line_at s b
  line_is b = by_test (ltb b 128) (λ t. rw t) (λ f. rw f)

  waits_is : (b : ℕ) → confirmed_at s b ≡ false → Waiting (it b)
  waits_is b f =
      by_test (ltb b 128)
      (λ t. let z : ltb 0 (slot_at s.slots b).number ≡ false = rw t at f in rw t (omega (arith, ltb-false 0 (slot_at s.slots b).number z)))
      (λ g. no _ refl (rw g at f))

  untouched_is : (b : ℕ) → (done_in s.slots b ≡ 0) × (mark_in s.slots b ≡ 0) → Untouched (it b)
  untouched_is b h = by_test (ltb b 128) (λ t. rw t ((rw t at h.0), (rw t at h.1))) (λ f. rw f tt)

  untouched_of : (b : ℕ) → Untouched (it b) → (done_in s.slots b ≡ 0) × (mark_in s.slots b ≡ 0)
  untouched_of b h = by_test (ltb b 128) (λ t. let g = rw t at h in rw t (g.0, g.1)) (λ f. rw f (refl, refl))

  follows_is : (m b : ℕ) → confirmed_at s b ≡ true → (m < line_at s b) ⊎ ((128 ≤ b) × (m ≤ line_at s b)) → Follows m (it b)
  follows_is m b c h =
      by_test (ltb b 128)
      (λ t. rw t (slot t h))
      (λ f. rw f (entry f h))
    where
      slot : ltb b 128 ≡ true → (m < line_at s b) ⊎ ((128 ≤ b) × (m ≤ line_at s b)) → m < (slot_at s.slots b).number
      slot t (inl l) = rw t at l
      slot t (inr l) = absurd (omega (arith, ltb-true b 128 t, l.0))

      entry : ltb b 128 ≡ false → (m < line_at s b) ⊎ ((128 ≤ b) × (m ≤ line_at s b)) → m ≤ (query_at s.queries (b - 128)).begun
      entry f (inl l) = let k : m < (query_at s.queries (b - 128)).begun = rw f at l in omega arith
      entry f (inr l) = rw f at l.1

  follows_of : (m b : ℕ) → Follows m (it b) → (m < line_at s b) ⊎ ((128 ≤ b) × (m ≤ line_at s b))
  follows_of m b h =
      by_test (ltb b 128)
      (λ t. inl (rw t (rw t at h)))
      (λ f. inr (ltb-false b 128 f, rw f (rw f at h)))

  -- BY PLACES TO BY RULES
  after_waiting : (x : ℕ) (ps : List ℕ) → confirmed_at s x ≡ false → Linked (x ∷ ps) → All Waiting (its ps)
  after_waiting x [] z h = tt
  after_waiting x (y ∷ ps) z h = let n = behind (h 0 (omega arith)) in (waits_is y n, after_waiting y ps n (λ p m. h (suc p) (omega arith)))
    where
      behind : After x y → confirmed_at s y ≡ false
      behind f = elim f.order [ inl e ↦ e | inr e ↦ no _ e.0 z ]

  order_from : (m x : ℕ) (ps : List ℕ) → (confirmed_at s x ≡ false) ⊎ Follows m (it x) → Bounded (x ∷ ps) → Linked (x ∷ ps) → InOrder m top (its (x ∷ ps))
  order_from m x [] o b h = elim o [ inl z ↦ inr (waits_is x z, tt) | inr g ↦ inl (g, rw (line_is x) (b 0 (omega arith)), tt) ]
  order_from m x (y ∷ ps) o b h =
      elim o [
        | inl z ↦ inr (waits_is x z, after_waiting x (y ∷ ps) z h)
        | inr g ↦ inl (g, rw (line_is x) (b 0 (omega arith)), order_from (line (it x)) y ps (next (h 0 (omega arith)).order) (λ p k. b (suc p) (omega arith)) (λ p k. h (suc p) (omega arith)))
      ]
    where
      next : (confirmed_at s y ≡ false) ⊎ ((confirmed_at s x ≡ true) × ((line_at s x < line_at s y) ⊎ ((128 ≤ y) × (line_at s x ≤ line_at s y))))
          → (confirmed_at s y ≡ false) ⊎ Follows (line (it x)) (it y)
      next (inl e) = inl e
      next (inr e) = by_test (confirmed_at s y) (λ t. inr (rw (line_is x) (follows_is (line_at s x) y t e.1))) (λ f. inl f)

  rest_from : (x : ℕ) (ps : List ℕ) → Linked (x ∷ ps) → All Untouched (its ps)
  rest_from x [] h = tt
  rest_from x (y ∷ ps) h = (untouched_is y (h 0 (omega arith)).untouched, rest_from y ps (λ p k. h (suc p) (omega arith)))

  pub rules_from : (ps : List ℕ) → Bounded ps → Linked ps → InOrder 0 top (its ps) × Rest (its ps)
  rules_from [] b h = (tt, tt)
  rules_from (x ∷ ps) b h = (order_from 0 x ps first b h, rest_from x ps h)
    where
      first : (confirmed_at s x ≡ false) ⊎ Follows 0 (it x)
      first = by_test (confirmed_at s x) (λ t. inr (from_zero t)) (λ f. inl f)
        where
          from_zero : confirmed_at s x ≡ true → Follows 0 (it x)
          from_zero t = by_test (ltb x 128)
              (λ y. let z : ltb 0 (slot_at s.slots x).number ≡ true = rw y at t in rw y (ltb-true 0 (slot_at s.slots x).number z))
              (λ f. rw f (omega arith))

  -- AND BACK
  waits_at : (ps : List ℕ) → All Waiting (its ps) → (p : ℕ) → p < length ps → confirmed_at s (get_or ps p 0) ≡ false
  waits_at [] h p k = absurd (omega arith)
  waits_at (x ∷ ps) h zero k = sym (confirmed_is x) ∙ waiting_unconfirmed (it x) h.0
  waits_at (x ∷ ps) h (suc p) k = waits_at ps h.1 p (omega arith)

  zero_line : (b : ℕ) → confirmed_at s b ≡ false → line_at s b ≡ 0
  zero_line b f =
      by_test (ltb b 128)
      (λ t. let z : ltb 0 (slot_at s.slots b).number ≡ false = rw t at f in rw t (omega (arith, ltb-false 0 (slot_at s.slots b).number z)))
      (λ g. no _ refl (rw g at f))

  pub bounded_of : (m : ℕ) (ps : List ℕ) → InOrder m top (its ps) → Bounded ps
  bounded_of m [] h p k = absurd (omega arith)
  bounded_of m (x ∷ ps) (inl h) zero k = rw (line_is x) at h.1
  bounded_of m (x ∷ ps) (inl h) (suc p) k = bounded_of (line (it x)) ps h.2 p (omega arith)
  bounded_of m (x ∷ ps) (inr h) p k = let z = zero_line (get_or (x ∷ ps) p 0) (waits_at (x ∷ ps) h p k) in omega arith

  order_at : (m x y : ℕ) (ps : List ℕ) → InOrder m top (its (x ∷ y ∷ ps))
      → (confirmed_at s y ≡ false) ⊎ ((confirmed_at s x ≡ true) × ((line_at s x < line_at s y) ⊎ ((128 ≤ y) × (line_at s x ≤ line_at s y))))
  order_at m x y ps (inl h) =
      elim h.2 [
        | inl g ↦ inr (sym (confirmed_is x) ∙ follows_confirmed m (it x) h.0, follows_of (line_at s x) y (rw (line_is x) at g.0))
        | inr g ↦ inl (sym (confirmed_is y) ∙ waiting_unconfirmed (it y) g.0)
      ]
  order_at m x y ps (inr h) = inl (sym (confirmed_is y) ∙ waiting_unconfirmed (it y) h.1.0)

  order_behind : (m x : ℕ) (ps : List ℕ) → InOrder m top (its (x ∷ ps)) → (k : ℕ) × InOrder k top (its ps)
  order_behind m x ps (inl h) = (line (it x), h.2)
  order_behind m x [] (inr h) = (0, tt)
  order_behind m x (y ∷ ps) (inr h) = (0, inr h.1)

  pub linked_of : (m : ℕ) (ps : List ℕ) → InOrder m top (its ps) → Rest (its ps) → Linked ps
  linked_of m [] o r p k = absurd (omega arith)
  linked_of m (x ∷ []) o r p k = absurd (omega arith)
  linked_of m (x ∷ y ∷ ps) o r zero k = record { order = order_at m x y ps o; untouched = untouched_of y r.0 }
  linked_of m (x ∷ y ∷ ps) o r (suc p) k =
      let n = order_behind m x (y ∷ ps) o in linked_of n.0 (y ∷ ps) n.1 r.1 p (omega arith)
