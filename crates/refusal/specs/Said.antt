-- What is said of a record that is refused: a line with its place, the number, and for a bad text the line. Assumes nothing.
use Rattle.std.specs.Prelude.{ℕ, List, [], ◌∷◌, ◌++◌, Option, Some, None}
use Rattle.decimal.specs.Decimal.{decimal}
use Rattle.text.specs.declared.Refused.{Refused}
use Rattle.text.specs.Calls.{Answer, wrote, refused, refused_at, refusal_of}

-- the words, in ASCII: `record `, `: refused `, ` at line `
abbrev pub record_word : List ℕ
record_word = 114 ∷ 101 ∷ 99 ∷ 111 ∷ 114 ∷ 100 ∷ 32 ∷ []

abbrev pub refused_word : List ℕ
refused_word = 58 ∷ 32 ∷ 114 ∷ 101 ∷ 102 ∷ 117 ∷ 115 ∷ 101 ∷ 100 ∷ 32 ∷ []

abbrev pub line_word : List ℕ
line_word = 32 ∷ 97 ∷ 116 ∷ 32 ∷ 108 ∷ 105 ∷ 110 ∷ 101 ∷ 32 ∷ []

-- `record N: refused R`
unfoldable pub refusal_start : (place number : ℕ) → List ℕ
refusal_start n r = record_word ++ decimal n ++ refused_word ++ decimal r

-- THE LINE that is said of the record at a place: nothing where it is not refused
abbrev pub refusal_line : (place : ℕ) → Answer → List ℕ
refusal_line n (wrote length) = []
refusal_line n (refused number) = refusal_start n number ++ (10 ∷ [])
refusal_line n (refused_at number line) = refusal_start n number ++ line_word ++ decimal line ++ (10 ∷ [])

-- of a record that is refused, or is not
abbrev pub said : (place : ℕ) → Option Refused → List ℕ
said n None = []
said n (Some e) = refusal_line n (refusal_of e)
