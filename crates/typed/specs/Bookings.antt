-- The bookings of a text: a booking ends before the next line that begins with a digit, or at the end of the text. Assumes nothing.
use Rattle.std.specs.Prelude.{◌≡◌, ℕ, ◌-◌, ◌<◌, ◌≤◌, Bool, true, cond, ◌&&◌, List, [], ◌∷◌, length, ◌==◌, nat_le, slice_index}
use Rattle.text.specs.Text.{newline}

-- a digit in ASCII
abbrev pub is_digit : ℕ → Bool
is_digit x = nat_le 48 x && nat_le x 57

-- does a booking end with the byte x, where y comes next?
abbrev pub parts : (x y : ℕ) → Bool
parts x y = x == newline && is_digit y

-- a byte before the first booking of a text
abbrev pub into : ℕ → List (List ℕ) → List (List ℕ)
into x [] = (x ∷ []) ∷ []
into x (b ∷ bs) = (x ∷ b) ∷ bs

-- THE BOOKINGS OF A TEXT, in order
unfoldable pub bookings : List ℕ → List (List ℕ)
bookings [] = []
bookings (x ∷ []) = (x ∷ []) ∷ []
bookings (x ∷ y ∷ t) = cond (parts x y) ((x ∷ []) ∷ bookings (y ∷ t)) (into x (bookings (y ∷ t)))

-- a booking begins at place i of a text, behind another
abbrev pub Begins : List ℕ → ℕ → Type 0
Begins t i = parts (slice_index t (i - 1)) (slice_index t i) ≡ true

-- WHERE THE BOOKING AT `at` ENDS: at the first place behind `at` where another begins, or at the end of the text
pub record Ends (t : List ℕ) (at end : ℕ) : Type 0 where
  pub behind : at < end
  pub within : end ≤ length t
  pub first : (i : ℕ) → at < i → i < end → Begins t i → ⊥
  pub stops : end < length t → Begins t end
