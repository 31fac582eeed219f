-- A line of output, as document 01 has it: the event's place in the input, a word, numbers. Assumes nothing.
use Rattle.std.specs.Prelude.{ℕ, ◌-◌, ◌≡◌, List, [], ◌∷◌, ◌++◌, take, drop, replicate}
use Rattle.decimal.specs.Decimal.{decimal, blanked}
use Rattle.plain.specs.Steps.{Answer, refused, queued, stepped, executed, committed, waiting, value, to_do, unconfirmed, begun, entry}
use Rattle.line.specs.declared.Line.{Line}

-- the words, in ASCII
abbrev pub word_of : Answer → List ℕ
word_of (refused reason) = 114 ∷ 101 ∷ 102 ∷ 117 ∷ 115 ∷ 101 ∷ 100 ∷ []
word_of (queued id class place slot) = 113 ∷ 117 ∷ 101 ∷ 117 ∷ 101 ∷ 100 ∷ []
word_of (stepped id done) = 115 ∷ 116 ∷ 101 ∷ 112 ∷ 112 ∷ 101 ∷ 100 ∷ []
word_of (executed id) = 101 ∷ 120 ∷ 101 ∷ 99 ∷ 117 ∷ 116 ∷ 101 ∷ 100 ∷ []
word_of (committed id number mark slot backs) = 99 ∷ 111 ∷ 109 ∷ 109 ∷ 105 ∷ 116 ∷ 116 ∷ 101 ∷ 100 ∷ []
word_of (waiting id w put_back) = 119 ∷ 97 ∷ 105 ∷ 116 ∷ 105 ∷ 110 ∷ 103 ∷ []
word_of (value cell) = 118 ∷ 97 ∷ 108 ∷ 117 ∷ 101 ∷ []
word_of (to_do w backs) = 116 ∷ 111 ∷ 45 ∷ 100 ∷ 111 ∷ []
word_of (unconfirmed backs) = 117 ∷ 110 ∷ 99 ∷ 111 ∷ 110 ∷ 102 ∷ 105 ∷ 114 ∷ 109 ∷ 101 ∷ 100 ∷ []
word_of (begun place) = 98 ∷ 101 ∷ 103 ∷ 117 ∷ 110 ∷ []
word_of (entry place cells) = 101 ∷ 110 ∷ 116 ∷ 114 ∷ 121 ∷ []

-- the numbers after the word, in document 01's order; of an entry the query's place, and not its cells
abbrev pub numbers_of : Answer → List ℕ
numbers_of (refused reason) = reason ∷ []
numbers_of (queued id class place slot) = id ∷ class ∷ place ∷ slot ∷ []
numbers_of (stepped id done) = id ∷ done ∷ []
numbers_of (executed id) = id ∷ []
numbers_of (committed id number mark slot backs) = id ∷ number ∷ mark ∷ slot ∷ backs ∷ []
numbers_of (waiting id w put_back) = id ∷ w ∷ put_back ∷ []
numbers_of (value cell) = cell ∷ []
numbers_of (to_do w backs) = w ∷ backs ∷ []
numbers_of (unconfirmed backs) = backs ∷ []
numbers_of (begun place) = place ∷ []
numbers_of (entry place cells) = place ∷ []

-- the place, a blank, the word, the numbers, and a newline
unfoldable pub line_with : ℕ → List ℕ → List ℕ → List ℕ
line_with place word ns = decimal place ++ (32 ∷ word) ++ blanked ns ++ (10 ∷ [])

-- the line of an answer to the event at a place
abbrev pub line_of : ℕ → Answer → List ℕ
line_of place a = line_with place (word_of a) (numbers_of a)

-- what stands in a line
abbrev pub written : Line → List ℕ
written l = take l.len l.bytes

-- behind it every byte is zero
abbrev pub RestZero : Line → Type 0
RestZero l = drop l.len l.bytes ≡ replicate (144 - l.len) 0
