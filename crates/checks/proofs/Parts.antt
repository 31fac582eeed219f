-- The rules of one queue, of the part of the queue places in which it stands. Assumes nothing.
use Prim.Native.Nat.{ℕ, ◌+◌, ◌*◌, ◌-◌, ◌<◌, ◌≤◌}
use native.Mathlib.Omega.{arith}
use mathlib.Core.Path.{◌≡◌, sym, ◌∙◌}
use mathlib.Core.List.{List}
use mathlib.Core.Bool.{Bool}
use lib.ListN.{length}
use Rattle.std.specs.Prelude.{slice_range}
use Rattle.std.proofs.lemmas.List.Edits.{length-between, get_or-between}
use Rattle.plain.specs.Decides.{Decides}
use Rattle.plain.proofs.Deciding.{decides_as}
use Rattle.plain.proofs.Sums.{sum_same}
use Rattle.store.specs.Checks.{Behind, InRange, Named, PlaceOk, QueueOk, ZeroFrom, nth, sum_over}
use Rattle.checks.specs.declared.queues.Queues.{Queues}

module _ (q : List ℕ) (a b : ℕ) (order : a ≤ b) (fits : b ≤ length q) where
  abbrev part : List ℕ
  part = slice_range q a b

  part_long : length part ≡ b - a
  part_long = length-between q a b fits

  pub zero_in_part : {t : Bool} → Decides t (ZeroFrom part 0 (length part)) → Decides t (ZeroFrom q a b)
  zero_in_part = decides_as
      (λ h k l m. let e : a + (k - a) ≡ k = omega arith in
      let z : nth part (k - a) ≡ nth q (a + (k - a)) = get_or-between q a b (k - a) 0 (omega arith) in
      rw e at (sym z ∙ h (k - a) (omega (arith, part_long)) (omega arith)))
      (λ h k l m. get_or-between q a b k 0 (omega (arith, part_long)) ∙ h (a + k) (omega (arith, part_long)) (omega arith))

-- of the queue of class c
module _ (v : Queues) (c : ℕ) (l : c < 16) where
  abbrev n : ℕ
  n = nth v.lens.now c

  fits : 136 * c + n ≤ length v.places.now
  fits = omega (arith, v.whole, v.short c l)

  abbrev pub queue_in : List ℕ
  queue_in = slice_range v.places.now (136 * c) (136 * c + n)

  pub queue_long : length queue_in ≡ n
  queue_long = let e = length-between v.places.now (136 * c) (136 * c + n) fits in omega arith

  pub queue_at : (p : ℕ) → p < n → nth queue_in p ≡ nth v.places.now (136 * c + p)
  queue_at p m = get_or-between v.places.now (136 * c) (136 * c + n) p 0 (omega arith)

  from_zero : (p : ℕ) → p < n → nth queue_in (0 + p) ≡ nth v.places.now (136 * c + p)
  from_zero p m = let z : 0 + p ≡ p = omega arith in rw z (queue_at p m)

  before : (p : ℕ) → 0 < p → p < n → nth queue_in (0 + p - 1) ≡ nth v.places.now (136 * c + p - 1)
  before p z m =
      let e : 136 * c + (p - 1) ≡ 136 * c + p - 1 = omega arith in
      let f : 0 + p - 1 ≡ p - 1 = omega arith in
      rw f (rw e at (queue_at (p - 1) (omega arith)))

  pub named_in : InRange v.places.now v.lens.now → Named queue_in 0 (length queue_in)
  named_in h p k = let m : p < n = omega (arith, queue_long) in rw (from_zero p m) (h c l p m)

  pub order_in : {line done mark : ℕ → ℕ} {top : ℕ} {t : Bool} → Decides t (QueueOk line done mark queue_in top 0 (length queue_in))
      → Decides t (QueueOk line done mark v.places.now top (136 * c) n)
  order_in = decides_as
      (λ h p m. let k = h p (omega (arith, queue_long)) in record {
        given = rw (from_zero p m) at k.given;
        follows = λ z. rw (before p z m, from_zero p m) at (k.follows z);
      })
      (λ h p k. let m : p < n = omega (arith, queue_long) in let k = h p m in record {
        given = rw (from_zero p m) k.given;
        follows = λ z. rw (before p z m, from_zero p m) (k.follows z);
      })

  pub sum_in : (due : ℕ → ℕ) → sum_over due queue_in 0 (length queue_in) ≡ sum_over due v.places.now (136 * c) n
  unfolding sum_over
  sum_in due = rw queue_long (sum_same _ _ n (λ p m. rw (from_zero p m)))

-- a place of a queue that begins at 0
pub place_ok : (line done mark : ℕ → ℕ) (queue : List ℕ) (top p : ℕ) → line (nth queue p) ≤ top
    → (0 < p → Behind line done mark (nth queue (p - 1)) (nth queue p)) → PlaceOk line done mark queue top 0 p
place_ok line done mark queue top p g f = let z : 0 + p ≡ p = omega arith in record { given = rw z g; follows = λ l. rw z (f l) }

pub follows_in : (line done mark : ℕ → ℕ) (queue : List ℕ) (top p : ℕ) → PlaceOk line done mark queue top 0 p → 0 < p → Behind line done mark (nth queue (p - 1)) (nth queue p)
follows_in line done mark queue top p h l = let z : 0 + p ≡ p = omega arith in rw z at (h.follows l)
