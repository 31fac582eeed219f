-- Bookings of an input and the records that are taken from them. Assumes nothing.
use Rattle.std.specs.Prelude.{◌≡◌, ℕ, suc, ◌-◌, Bool, cond, not, ◌&&◌, ◌||◌, List, [], ◌∷◌, ◌++◌, length, drop, nat_le, nat_lt}
use Rattle.std.proofs.Math.Option.{Option, none, some}
use Rattle.plain.specs.Ops.{Request}
use Rattle.plain.specs.Record.{request}
use Rattle.text.specs.Text.{text_of}
use Rattle.text.specs.Lines.{FirstBad}
use Rattle.text.specs.Calls.{Answer, wrote, refused_at}
use Rattle.input.specs.Pieces.{behind}
use Rattle.typed.specs.Bookings.{bookings}

-- TAKING BOOKINGS: the records of those taken, one behind another, how many they are, and the first bad line of the one that is refused, if one is
pub data Takes : List (List ℕ) → (records : List ℕ) (done : ℕ) → Option ℕ → Type 0 where
  -- none is left
  all : Takes [] [] 0 none
  -- one is the text of a request, and its record is put first
  one : (b : List ℕ) (bs : List (List ℕ)) (bytes : List ℕ) (r : Request) (records : List ℕ) (done : ℕ) (bad : Option ℕ) → request bytes ≡ some r
      → b ≡ text_of r → Takes bs records done bad → Takes (b ∷ bs) (bytes ++ records) (suc done) bad
  -- one is refused, and nothing is taken behind it
  stop : (b : List ℕ) (bs : List (List ℕ)) (line : ℕ) → FirstBad b line → Takes (b ∷ bs) [] 0 (some line)

-- no text of a request has more bytes
abbrev pub longest : ℕ
longest = 168

-- may the booking from `at` to `end` go on behind a block of n bytes? Only where it ends with the block, which is not the last, and is not too long
abbrev pub may_go_on : (at end n : ℕ) (last : Bool) → Bool
may_go_on at end n last = not last && (nat_le n end && nat_le (end - at) longest)

-- the bookings of a block that are taken: the last may go on behind a block that is not the last, unless it is too long to be a booking
abbrev pub whole : (last : Bool) → List (List ℕ) → List (List ℕ)
whole last [] = []
whole last (b ∷ []) = cond (last || nat_lt longest (length b)) (b ∷ []) []
whole last (b ∷ c ∷ bs) = b ∷ whole last (c ∷ bs)

-- what is answered: the length of the records, or the first bad line
abbrev pub answered : ℕ → Option ℕ → Answer
answered n none = wrote n
answered n (some line) = refused_at 15 line

-- TAKING A BLOCK from a place on: its bookings are taken; what is left begins at `at`, and `next` is the place of the first booking that is left
pub record TakesBlock (t : List ℕ) (last : Bool) (place : ℕ) (records : List ℕ) (at next : ℕ) (a : Answer) : Type 0 where
  pub done : ℕ
  pub bad : Option ℕ
  pub takes : Takes (whole last (bookings t)) records done bad
  pub left : bookings (drop at t) ≡ drop done (bookings t)
  pub counts : next ≡ behind place done
  pub answers : a ≡ answered (length records) bad

-- A RUN SO FAR: whatever comes behind the bytes that it read, the bookings that were taken come first, and then those of what is left and of
-- what comes behind it
pub record Ran (read records left : List ℕ) (next : ℕ) : Type 0 where
  pub taken : List (List ℕ)
  pub cut : (more : List ℕ) → bookings (read ++ more) ≡ taken ++ bookings (left ++ more)
  pub takes : Takes taken records (length taken) none
  pub counts : next ≡ behind 1 (length taken)

-- A RUN THAT IS OVER: the bookings of the whole input were taken, and `next` is the place of the one that is refused, or behind the last
pub record Over (input records : List ℕ) (next : ℕ) (bad : Option ℕ) : Type 0 where
  pub done : ℕ
  pub takes : Takes (bookings input) records done bad
  pub counts : next ≡ behind 1 done
