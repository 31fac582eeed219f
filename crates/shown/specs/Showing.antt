-- Records of an input and the text that is shown of them. Assumes nothing.
use Rattle.std.specs.Prelude.{◌≡◌, ℕ, ◌*◌, cond, List, [], ◌∷◌, ◌++◌, map, length}
use Rattle.plain.specs.Sizes.{record_size}
use Rattle.plain.specs.Ops.{Request, every}
use Rattle.plain.specs.Record.{is_record, request_in}
use Rattle.text.specs.Text.{joined, text_of}
use Rattle.text.specs.Calls.{Answer, wrote, refused}
use Rattle.input.specs.Pieces.{pieces, behind}

-- the records of an input are its 64-byte pieces in order; the last may be short
abbrev pub records_of : List ℕ → List (List ℕ)
records_of input = pieces record_size input

-- the requests of records, up to the first that is none
abbrev pub requests : List (List ℕ) → List Request
requests [] = []
requests (b ∷ bs) = cond (is_record b) (request_in b ∷ requests bs) []

-- their texts, one behind another
abbrev pub texts : List (List ℕ) → List ℕ
texts bs = joined text_of (requests bs)

-- ONE RECORD: its text is put behind what stood before, or it is refused with 3
pub record ShowsOne (b before text : List ℕ) (a : Answer) : Type 0 where
  pub says : text ≡ before ++ texts (b ∷ [])
  pub answers : a ≡ cond (is_record b) (wrote (length (texts (b ∷ [])))) (refused 3)

-- RECORDS from a place on: the text is theirs up to the first that is none, which is refused with 3; `next` is the place behind those shown
pub record Shows (bs : List (List ℕ)) (place : ℕ) (text : List ℕ) (next : ℕ) (a : Answer) : Type 0 where
  pub says : text ≡ texts bs
  pub counts : next ≡ behind place (length (requests bs))
  pub answers : a ≡ cond (every (map is_record bs)) (wrote (length text)) (refused 3)

-- A RUN SO FAR: the bytes that it read are whole records, and it showed them all, from place 1 on
pub record Ran (read text : List ℕ) (next : ℕ) : Type 0 where
  pub count : ℕ
  pub whole : length read ≡ record_size * count
  pub shown : Shows (records_of read) 1 text next (wrote (length text))
