-- An input of pieces of one size: where it is cut, and places in it. Assumes nothing.
use Rattle.std.specs.Prelude.{ℕ, zero, suc, ◌+◌, ◌-◌, ◌%◌, ◌^◌, Bool, cond, List, [], ◌∷◌, length, take, drop}

-- a text cut behind every n bytes; the last piece may be short. It has no more pieces than bytes
unfoldable pub pieces_up_to : (most n : ℕ) → List ℕ → List (List ℕ)
pieces_up_to zero n t = []
pieces_up_to (suc most) n [] = []
pieces_up_to (suc most) n (x ∷ t) = take n (x ∷ t) ∷ pieces_up_to most n (drop n (x ∷ t))

-- THE PIECES OF AN INPUT, n bytes each, in order
unfoldable pub pieces : ℕ → List ℕ → List (List ℕ)
pieces n t = pieces_up_to (length t) n t

-- a place in the input is a 64-bit number and goes round: the place that lies k behind another
abbrev pub behind : ℕ → ℕ → ℕ
behind place k = (place + k) % 2 ^ 64

-- how many of n bytes that were read are answered: all, but where a read failed only those of whole pieces
abbrev pub whole_part : (failed : Bool) (size n : ℕ) → ℕ
whole_part failed size n = cond failed (n - n % size) n
