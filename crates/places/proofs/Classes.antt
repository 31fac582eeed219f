-- A move in the flat array from the start of class c on is that move in class c's part: what stands before the part is passed over, what comes
-- after it is untouched, and so the array comes back with the part replaced. Assumes nothing.
use Prim.Native.Nat.{ℕ, zero, suc, ◌+◌, ◌*◌, ◌<◌, ◌≤◌}
use native.Mathlib.Omega.{arith}
use mathlib.Core.Path.{◌≡◌, refl, sym, ap, ◌∙◌}
use mathlib.Core.Logic.{◌⊎◌, inl, inr, ⊎_elim}
use mathlib.Core.List.{List, ◌++◌}
use lib.ListN.{length, get_or, take, drop, length-drop}
use lib.Seq.{length-take-le, get_or-take, get_or-drop}
use borrow.Rule.Slice.PartMut.{put_mid, post_of, put_same}
use Rattle.places.specs.Moves.{moved_up, taken_out, first_off, part, OthersKept, Moved, Shortened}
use Rattle.places.proofs.Parts.{put_own, put_apart}
use Rattle.places.proofs.Shift.{moved_after, moved_append, moved_length, out_after, off_append, off_length}

two_sides : (d c : ℕ) → (d ≡ c → ⊥) → (d < c) ⊎ (c < d)
two_sides zero zero ne = absurd (ne refl)
two_sides zero (suc c) ne = inl (omega arith)
two_sides (suc d) zero ne = inr (omega arith)
two_sides (suc d) (suc c) ne = ⊎_elim (λ h. inl (omega arith)) (λ h. inr (omega arith)) (two_sides d c (λ e. ne (ap suc e)))

-- what stands before class c's part, and what comes after it
abbrev before : List ℕ → ℕ → List ℕ
before q c = take (136 * c) q

abbrev after : List ℕ → ℕ → List ℕ
after q c = post_of (136 * c) 136 q

module _ (q : List ℕ) (c : ℕ) (all : length q ≡ 2176) (k : c < 16) where
  part_length : length (part q c) ≡ 136
  part_length = length-take-le 136 (drop (136 * c) q) (omega (arith, length-drop (136 * c) q))

  before_length : length (before q c) ≡ 136 * c
  before_length = length-take-le (136 * c) q (omega arith)

  -- a part put there leaves the other classes
  put_others : (p : List ℕ) → length p ≡ 136 → OthersKept q (put_mid (136 * c) 136 q p) c
  put_others p e d ne =
      put_apart (136 * c) 136 q p (omega arith) e (136 * d) 136 (⊎_elim (λ h. inl (omega arith)) (λ h. inr (omega arith)) (two_sides d c ne))

  -- g in the array is f in the part of class c, if g passes over what stands before the part, and f leaves what comes after it
  in_part : (f g : List ℕ → List ℕ) → g (before q c ++ (part q c ++ after q c)) ≡ before q c ++ f (part q c ++ after q c)
      → f (part q c ++ after q c) ≡ f (part q c) ++ after q c
      → length (f (part q c)) ≡ 136 → (part (g q) c ≡ f (part q c)) × OthersKept q (g q) c
  in_part f g passes leaves n =
      let back = sym (ap g (put_same (136 * c) 136 q)) in
      let w : g q ≡ put_mid (136 * c) 136 q (f (part q c)) = back ∙ passes ∙ ap (λ (l : List ℕ). before q c ++ l) leaves in
      rw w (put_own (136 * c) 136 q (f (part q c)) (omega arith) n, put_others (f (part q c)) n)

  pub moved_class : (from to : ℕ) (r : List ℕ) → to ≤ from → from < 136
      → r ≡ moved_up (get_or q (136 * c + from) 0) q (136 * c + from) (136 * c + to) → Moved q r c from to
  moved_class from to r h m e =
      let len = part_length in
      let x = get_or (part q c) from 0 in
      let same : get_or q (136 * c + from) 0 ≡ x = rw (get_or-take, get_or-drop) in
      let passes = moved_after (before q c) (part q c ++ after q c) (136 * c) from to x before_length in
      let leaves = moved_append (part q c) from (omega arith) to x (after q c) h in
      let n = moved_length (part q c) from (omega arith) to x h ∙ len in
      let s = in_part (λ (l : List ℕ). moved_up x l from to) (λ (l : List ℕ). moved_up x l (136 * c + from) (136 * c + to)) passes leaves n in
      let long = moved_length q (136 * c + from) (omega arith) (136 * c + to) x (omega arith) in
      rw (e, same) (record { own = s.0; others = s.1; long = long })

  pub short_class : (n : ℕ) (r : List ℕ) → 0 < n → n ≤ 136 → r ≡ taken_out q (136 * c) (136 * c + n) → Shortened q r c n
  short_class n r h m e =
      let len = part_length in
      let passes = out_after (before q c) (part q c ++ after q c) (136 * c) n before_length in
      let leaves = off_append (part q c) n (omega arith) (after q c) in
      let same = off_length (part q c) n (omega arith) h ∙ len in
      let s = in_part (λ (l : List ℕ). first_off l n) (λ (l : List ℕ). taken_out l (136 * c) (136 * c + n)) passes leaves same in
      rw e (record { own = s.0; others = s.1 })
