-- Texts cut into their bookings: 10 is the newline, 48 to 57 are digits, 120 is a letter. Assumes nothing.
use Rattle.std.proofs.Common.{◌≡◌, true, false, [], ◌∷◌, refl}
use Rattle.typed.specs.Bookings.{bookings}
use Rattle.typed.specs.Taking.{whole}

-- a line that begins with a digit begins a booking, any other line goes on with it
two : bookings (55 ∷ 10 ∷ 120 ∷ 10 ∷ 57 ∷ 48 ∷ 10 ∷ 120 ∷ []) ≡ (55 ∷ 10 ∷ 120 ∷ 10 ∷ []) ∷ (57 ∷ 48 ∷ 10 ∷ 120 ∷ []) ∷ []
unfolding bookings
two = refl

-- a digit within a line begins none
within : bookings (120 ∷ 48 ∷ 10 ∷ []) ≡ (120 ∷ 48 ∷ 10 ∷ []) ∷ []
unfolding bookings
within = refl

-- what stands before the first digit is a booking, and a bad one
before_the_first : bookings (10 ∷ 55 ∷ []) ≡ (10 ∷ []) ∷ (55 ∷ []) ∷ []
unfolding bookings
before_the_first = refl

-- the last booking of a block is taken only of the last block
left : (whole false ((55 ∷ []) ∷ (56 ∷ []) ∷ []) ≡ (55 ∷ []) ∷ []) × (whole true ((55 ∷ []) ∷ (56 ∷ []) ∷ []) ≡ (55 ∷ []) ∷ (56 ∷ []) ∷ [])
left = (refl, refl)
