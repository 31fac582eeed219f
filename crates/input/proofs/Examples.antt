-- Inputs cut, and places that go round. Assumes nothing.
use mathlib.Core.Path.{◌≡◌, refl}
use mathlib.Core.Bool.{true, false}
use mathlib.Core.List.{[], ◌∷◌}
use Rattle.input.specs.Pieces.{pieces_up_to, pieces, behind, whole_part}

-- the last piece may be short
short_last : pieces 2 (1 ∷ 2 ∷ 3 ∷ 4 ∷ 5 ∷ []) ≡ (1 ∷ 2 ∷ []) ∷ (3 ∷ 4 ∷ []) ∷ (5 ∷ []) ∷ []
unfolding pieces pieces_up_to
short_last = refl

-- the place behind the last is 0
round : (behind 18446744073709551615 1 ≡ 0) × (behind 1 1 ≡ 2)
round = (refl, refl)

-- of 150 bytes before a read that failed 144 are those of whole events; at the end of the input all are answered
cut_off : (whole_part true 72 150 ≡ 144) × (whole_part false 72 150 ≡ 150)
cut_off = (refl, refl)
