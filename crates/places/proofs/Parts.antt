-- A list in which a part from the middle was replaced: that part is what was put there, and a part apart from it is as it was, since `take` and
-- `drop` of an append fall on one side of the seam. Assumes nothing.
use Prim.Native.Nat.{ℕ, ◌+◌, ◌-◌, ◌≤◌}
use native.Mathlib.Omega.{arith}
use mathlib.Core.Path.{◌≡◌, sym, ap, ◌∙◌}
use mathlib.Core.Logic.{◌⊎◌, inl, inr}
use mathlib.Core.List.{List, ◌++◌, append_assoc}
use lib.ListN.{length, take, drop, length-append, length-drop, take-append-drop}
use lib.Seq.{length-take-le, take-append-le, drop-append-le, drop-append-add, take_at, drop_at, drop-drop}
use borrow.Rule.Slice.PartMut.{put_mid, post_of}

module _ {A : Type 0} where
  front : (m b : ℕ) (xs ys : List A) → b + m ≤ length xs → take m (drop b (xs ++ ys)) ≡ take m (drop b xs)
  front m b xs ys h = rw (drop-append-le b xs ys (omega arith)) (take-append-le m (drop b xs) ys (omega (arith, length-drop b xs)))

  -- p in the place of the n from a on
  module _ (a n : ℕ) (l p : List A) (h : a + n ≤ length l) (e : length p ≡ n) where
    pub put_own : take n (drop a (put_mid a n l p)) ≡ p
    put_own = rw (drop_at (take a l) (p ++ post_of a n l) a (length-take-le a l (omega arith))) (take_at p (post_of a n l) n e)

    pub put_apart : (b m : ℕ) → (b + m ≤ a) ⊎ (a + n ≤ b) → take m (drop b (put_mid a n l p)) ≡ take m (drop b l)
    put_apart b m (inl k) =
        let len : length (take a l) ≡ a = length-take-le a l (omega arith) in
        front m b (take a l) (p ++ post_of a n l) (omega arith) ∙ sym (front m b (take a l) (drop a l) (omega arith)) ∙ rw (take-append-drop a l)
    put_apart b m (inr k) =
        let len : length (take a l ++ p) ≡ a + n = omega (arith, length-append (take a l) p, length-take-le a l (omega arith)) in
        let past = b - (a + n) in
        let at : b ≡ length (take a l ++ p) + past = omega arith in
        let to : a + n + past ≡ b = omega arith in
        let split : drop (length (take a l ++ p) + past) (put_mid a n l p) ≡ drop past (post_of a n l) =
        rw (← append_assoc) (drop-append-add (take a l ++ p) (post_of a n l) past) in
        let back : drop past (post_of a n l) ≡ drop b l = rw (drop-drop n a l, drop-drop past (a + n) l, to) in
        ap (take m) (ap (λ (k : ℕ). drop k (put_mid a n l p)) at ∙ split ∙ back)
