-- The pieces of an input: the first and those behind it, and that cutting goes on across the end of a whole block. Assumes nothing.
use Prim.Native.Nat.{ℕ, zero, suc, ◌+◌, ◌-◌, ◌*◌, ◌≤◌, ◌<◌}
use native.Mathlib.Omega.{arith}
use Rattle.std.proofs.Common.{min, append-nil, take_at, drop_at}
use mathlib.Core.Path.{◌≡◌, refl, sym, ap, ◌∙◌}
use mathlib.Core.List.{List, [], ◌∷◌, ◌++◌}
use lib.ListN.{length, take, drop, length-take, length-drop, length-append, drop_of_length-le}
use lib.Seq.{take_all, take-append-le, drop-append-le, drop-drop}
use Rattle.input.specs.Pieces.{pieces_up_to, pieces}

-- any bound that is no smaller than the length gives the same pieces
same_pieces : (j k n : ℕ) (t : List ℕ) → 1 ≤ n → length t ≤ j → length t ≤ k → pieces_up_to j n t ≡ pieces_up_to k n t
unfolding pieces_up_to
same_pieces zero zero n t p h l = refl
same_pieces zero (suc k) n [] p h l = refl
same_pieces zero (suc k) n (x ∷ t) p h l = absurd (omega arith)
same_pieces (suc j) zero n [] p h l = refl
same_pieces (suc j) zero n (x ∷ t) p h l = absurd (omega arith)
same_pieces (suc j) (suc k) n [] p h l = refl
same_pieces (suc j) (suc k) n (x ∷ t) p h l =
    ap (λ (r : List (List ℕ)). take n (x ∷ t) ∷ r)
    (same_pieces j k n (drop n (x ∷ t)) p (omega (arith, length-drop n (x ∷ t))) (omega (arith, length-drop n (x ∷ t))))

module _ (n : ℕ) (p : 1 ≤ n) where
  -- no byte, no piece
  pub no_piece : pieces n [] ≡ []
  unfolding pieces pieces_up_to
  no_piece = refl

  -- THE FIRST PIECE, and those behind it
  pub first_piece : (t : List ℕ) → 1 ≤ length t → pieces n t ≡ take n t ∷ pieces n (drop n t)
  unfolding pieces pieces_up_to
  first_piece [] h = absurd (omega arith)
  first_piece (x ∷ t) h =
      ap (λ (r : List (List ℕ)). take n (x ∷ t) ∷ r)
      (same_pieces (length t) (length (drop n (x ∷ t))) n (drop n (x ∷ t)) p (omega (arith, length-drop n (x ∷ t))) (omega arith))

  -- what is no longer than a piece is one
  pub one_piece : (t : List ℕ) → 1 ≤ length t → length t ≤ n → pieces n t ≡ t ∷ []
  one_piece t h l =
      let d : drop n t ≡ [] = drop_of_length-le t l in
      first_piece t h ∙ rw (take_all n t l, d, no_piece)

  -- as the library's chunks come off: a whole piece, or all that is left
  pub next_piece : (x rest : List ℕ) → length x ≡ min n (length (x ++ rest)) → 0 < length (x ++ rest) → pieces n (x ++ rest) ≡ x ∷ pieces n rest
  next_piece x [] e h =
      let all : x ++ [] ≡ x = append-nil x in
      rw (all, no_piece) (one_piece x (omega (arith, rw all at h)) (omega (arith, rw all at e)))
  next_piece x (y ∷ rest) e h =
      let l : length x ≡ n = omega (arith, length-append x (y ∷ rest)) in
      first_piece (x ++ (y ∷ rest)) h ∙ rw (take_at x (y ∷ rest) n l, drop_at x (y ∷ rest) n l)

  -- AT A PLACE, which is how a program walks over an input: a whole piece and those behind it, none, and a short one
  pub piece_at : (t : List ℕ) (at : ℕ) → at + n ≤ length t → pieces n (drop at t) ≡ take (at + n - at) (drop at t) ∷ pieces n (drop (at + n) t)
  piece_at t at h =
      let e : at + n - at ≡ n = omega arith in
      first_piece (drop at t) (omega (arith, length-drop at t)) ∙ rw (e, drop-drop n at t)

  pub none_at : (t : List ℕ) (at : ℕ) → length t ≤ at → pieces n (drop at t) ≡ []
  none_at t at h = ap (pieces n) (drop_of_length-le t h) ∙ no_piece

  pub short_at : (t : List ℕ) (at : ℕ) → at < length t → length t < at + n → pieces n (drop at t) ≡ take (length t - at) (drop at t) ∷ []
  short_at t at h l =
      let e : take (length t - at) (drop at t) ≡ drop at t = take_all (length t - at) (drop at t) (omega (arith, length-drop at t)) in
      one_piece (drop at t) (omega (arith, length-drop at t)) (omega (arith, length-drop at t)) ∙ rw e

  some_bytes : (t p : List ℕ) (rest : List (List ℕ)) → pieces n t ≡ p ∷ rest → 1 ≤ length t
  some_bytes [] p rest e = let z : length {A = List ℕ} [] ≡ length (p ∷ rest) = ap length (sym no_piece ∙ e) in absurd (omega arith)
  some_bytes (x ∷ t) p rest e = omega arith

  -- ACROSS A BORDER: behind whole pieces cutting begins anew
  pub pieces_append : (k : ℕ) (a b : List ℕ) → length a ≡ n * k → pieces n (a ++ b) ≡ pieces n a ++ pieces n b
  pieces_append zero [] b h = rw no_piece
  pieces_append zero (x ∷ a) b h = absurd (omega arith)
  pieces_append (suc k) a b h =
      let l : n ≤ length a = omega arith in
      let m : length (drop n a) ≡ n * k = omega (arith, length-drop n a) in
      first_piece (a ++ b) (omega (arith, length-append a b))
      ∙ rw (take-append-le n a b l, drop-append-le n a b l, pieces_append k (drop n a) b m, first_piece a (omega arith))

  -- ONLY THE LAST MAY BE SHORT
  pub whole_but_last : (ps : List (List ℕ)) (t p q : List ℕ) (rest : List (List ℕ)) → pieces n t ≡ ps ++ (p ∷ q ∷ rest) → length p ≡ n
  whole_but_last [] [] p q rest e = let z : length {A = List ℕ} [] ≡ length (p ∷ q ∷ rest) = ap length (sym no_piece ∙ e) in absurd (omega arith)
  whole_but_last [] (x ∷ t) p q rest e =
      let f : take n (x ∷ t) ∷ pieces n (drop n (x ∷ t)) ≡ p ∷ q ∷ rest = sym (first_piece (x ∷ t) (omega arith)) ∙ e in
      let i : take n (x ∷ t) ≡ p = cc in
      let j : pieces n (drop n (x ∷ t)) ≡ q ∷ rest = cc in
      let l : 1 ≤ length (drop n (x ∷ t)) = some_bytes (drop n (x ∷ t)) q rest j in
      omega (arith, length-drop n (x ∷ t), length-take n (x ∷ t), ap length i)
  whole_but_last (o ∷ ps) [] p q rest e =
      let z : length {A = List ℕ} [] ≡ length (o ∷ (ps ++ (p ∷ q ∷ rest))) = ap length (sym no_piece ∙ e) in absurd (omega arith)
  whole_but_last (o ∷ ps) (x ∷ t) p q rest e =
      let f : take n (x ∷ t) ∷ pieces n (drop n (x ∷ t)) ≡ o ∷ (ps ++ (p ∷ q ∷ rest)) = sym (first_piece (x ∷ t) (omega arith)) ∙ e in
      let j : pieces n (drop n (x ∷ t)) ≡ ps ++ (p ∷ q ∷ rest) = cc in
      whole_but_last ps (drop n (x ∷ t)) p q rest j
