-- Laws of the two moves in a list: a turn of each loop, what its last store leaves, its length, and the same move with other places before or
-- after it. A list is cut at the place that is stored, and both sides are the same pieces. Assumes nothing.
use Prim.Native.Nat.{ℕ, zero, suc, ◌+◌, ◌-◌, ◌<◌, ◌≤◌}
use native.Mathlib.Nat.{add-suc}
use native.Mathlib.Numerals.{add-one}
use native.Mathlib.Omega.{arith}
use mathlib.Core.Path.{◌≡◌, refl, sym, ap, ◌∙◌}
use mathlib.Core.List.{List, [], ◌∷◌, ◌++◌, append_assoc}
use lib.ListN.{length, get_or, take, drop, set, length-append, length-drop, take-append-drop, get_or-append}
use lib.Seq.{slice, slice_empty, slice-cons, length-slice, split_at, take-suc, append_snoc, set_at, length-take-le, get_or-take}
use lib.Seq.{take-append-le, drop-append-le, take-append-add, take-append_seam, drop-append-add}
use Rattle.places.specs.Moves.{moved_up, taken_out, first_off}

-- what stands at `from` goes to `to`
module _ {A : Type 0} (l : List A) (from : ℕ) (h : from < length l) where
  -- not moved at all
  pub moved_stay : (d : A) → moved_up (get_or l from d) l from from ≡ l
  moved_stay d = rw (slice_empty from l) (sym (split_at l from d h))

  -- a store where it is to go
  pub moved_set : (to : ℕ) (x y : A) → to ≤ from → set (moved_up y l from to) to x ≡ moved_up x l from to
  moved_set to x y k = set_at (take to l) y (slice to from l ++ drop (suc from) l) x to (length-take-le to l (omega arith))

  -- one place further up
  moved_step : (j : ℕ) (d : A) → j < from → moved_up (get_or l j d) l from (suc j) ≡ moved_up (get_or l j d) l from j
  moved_step j d k =
      rw (take-suc l j d (omega arith), slice-cons j from l d k (omega arith))
      (append_snoc (take j l) (get_or l j d) (get_or l j d ∷ (slice (suc j) from l ++ drop (suc from) l)))

  moved_before : (j to : ℕ) (x d : A) → j < to → to ≤ from → get_or (moved_up x l from to) j d ≡ get_or l j d
  moved_before j to x d k m =
      get_or-append (take to l) (x ∷ (slice to from l ++ drop (suc from) l)) d j (omega (arith, length-take-le to l (omega arith)))
      ∙ get_or-take to l j d k

  -- a turn
  pub moved_turn : (i : ℕ) (d : A) → 0 < i → i ≤ from
      → set (moved_up (get_or l i d) l from i) i (get_or (moved_up (get_or l i d) l from i) (i - 1) d) ≡ moved_up (get_or l (i - 1) d) l from (i - 1)
  moved_turn zero d k m = absurd (omega arith)
  moved_turn (suc j) d k m =
      let e : suc j - 1 ≡ j = omega arith in
      rw (e, moved_before j (suc j) (get_or l (suc j) d) d (omega arith) m, moved_set (suc j) (get_or l j d) (get_or l (suc j) d) m)
      (moved_step j d (omega arith))

  pub moved_length : (to : ℕ) (x : A) → to ≤ from → length (moved_up x l from to) ≡ length l
  moved_length to x k =
      omega (
        arith,
        length-append (take to l) (x ∷ (slice to from l ++ drop (suc from) l)),
        length-append (slice to from l) (drop (suc from) l),
        length-take-le to l (omega arith),
        length-slice to from l (omega arith),
        length-drop (suc from) l,
      )

  -- with others after it
  pub moved_append : (to : ℕ) (x : A) (zs : List A) → to ≤ from → moved_up x (l ++ zs) from to ≡ moved_up x l from to ++ zs
  moved_append to x zs k =
      rw (take-append-le to l zs (omega arith), take-append-le from l zs (omega arith), drop-append-le (suc from) l zs h)
      (ap (λ (r : List A). take to l ++ x ∷ r) (sym (append_assoc (slice to from l) (drop (suc from) l) zs))
      ∙ sym (append_assoc (take to l) (x ∷ (slice to from l ++ drop (suc from) l)) zs))

-- with n others before it
pub moved_after : {A : Type 0} (ys l : List A) (n from to : ℕ) (x : A) → length ys ≡ n
    → moved_up x (ys ++ l) (n + from) (n + to) ≡ ys ++ moved_up x l from to
moved_after ys l n from to x e =
    let between : slice (length ys + to) (length ys + from) (ys ++ l) ≡ slice to from l =
    rw (take-append-add ys l from) (drop-append-add ys (take from l) to) in
    rw (← e, between, ← add-suc (length ys) from, take-append-add ys l to, drop-append-add ys l (suc from))
    (append_assoc ys (take to l) (x ∷ (slice to from l ++ drop (suc from) l)))

-- the place at `at` goes: those after it up to i have moved up
abbrev pub shifted : {A : Type 0} → List A → ℕ → ℕ → List A
shifted l at i = take at l ++ (slice (suc at) (suc i) l ++ drop i l)

pub shifted_stay : {A : Type 0} (l : List A) (at : ℕ) → shifted l at at ≡ l
shifted_stay l at = rw (slice_empty (suc at) l) (take-append-drop at l)

shifted_suc : {A : Type 0} (l : List A) (at i : ℕ) (d : A) → at ≤ i → suc i < length l
    → set (shifted l at i) i (get_or (shifted l at i) (suc i) d) ≡ shifted l at (suc i)
shifted_suc [] at i d k h = absurd (omega arith)
shifted_suc (x ∷ []) at i d k h = absurd (omega arith)
shifted_suc (x ∷ y ∷ l) zero zero d k h = refl
shifted_suc {A} (x ∷ y ∷ l) zero (suc i) d k h = ap (λ (r : List A). y ∷ r) (shifted_suc (y ∷ l) zero i d (omega arith) (omega arith))
shifted_suc (x ∷ y ∷ l) (suc at) zero d k h = absurd (omega arith)
shifted_suc {A} (x ∷ y ∷ l) (suc at) (suc i) d k h = ap (λ (r : List A). x ∷ r) (shifted_suc (y ∷ l) at i d (omega arith) (omega arith))

pub shifted_turn : {A : Type 0} (l : List A) (at i : ℕ) (d : A) → at ≤ i → i + 1 < length l
    → set (shifted l at i) i (get_or (shifted l at i) (i + 1) d) ≡ shifted l at (i + 1)
shifted_turn l at i d k h = rw (add-one i) (shifted_suc l at i d k (omega arith))

pub shifted_end : (l : List ℕ) (at i : ℕ) → at ≤ i → i < length l → set (shifted l at i) i 0 ≡ taken_out l at (suc i)
shifted_end [] at i k h = absurd (omega arith)
shifted_end (x ∷ l) zero zero k h = refl
shifted_end (x ∷ []) zero (suc i) k h = absurd (omega arith)
shifted_end (x ∷ y ∷ l) zero (suc i) k h = ap (λ (r : List ℕ). y ∷ r) (shifted_end (y ∷ l) zero i (omega arith) (omega arith))
shifted_end (x ∷ l) (suc at) zero k h = absurd (omega arith)
shifted_end (x ∷ l) (suc at) (suc i) k h = ap (λ (r : List ℕ). x ∷ r) (shifted_end l at i (omega arith) (omega arith))

-- the first of n goes: with others before it, and with others after it
pub out_after : (ys l : List ℕ) (a n : ℕ) → length ys ≡ a → taken_out (ys ++ l) a (a + n) ≡ ys ++ first_off l n
out_after ys l a n e =
    rw (← e, ← add-one (length ys), take-append-add ys l n, take-append_seam ys l, drop-append-add ys (take n l) 1, drop-append-add ys l n)

module _ (l : List ℕ) (n : ℕ) (h : n ≤ length l) where
  pub off_append : (zs : List ℕ) → first_off (l ++ zs) n ≡ first_off l n ++ zs
  off_append zs = rw (take-append-le n l zs h, drop-append-le n l zs h) (sym (append_assoc (drop 1 (take n l)) (0 ∷ drop n l) zs))

  pub off_length : 0 < n → length (first_off l n) ≡ length l
  off_length k =
      omega (
        arith,
        length-append (drop 1 (take n l)) (0 ∷ drop n l),
        length-drop 1 (take n l),
        length-take-le n l h,
        length-drop n l,
      )
