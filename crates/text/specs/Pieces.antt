-- What the pieces of write and read come to. Assumes nothing.
use Rattle.std.specs.Prelude.{ℕ, ◌/◌, ◌%◌, ◌≤◌, ◌<◌, ◌≡◌, false, cond, List, [], ◌∷◌, ◌++◌, length, get_or}
use Rattle.plain.specs.Sizes.{class_count, most_ops, word}
use Rattle.plain.specs.Record.{uses_second, names}
use Rattle.decimal.specs.Decimal.{decimal}
use Rattle.cells.specs.declared.Op.{Op}
use Rattle.cells.specs.Ops.{OpOk}
use Rattle.slots.specs.declared.Slot.{Slot}
use Rattle.slots.specs.Meaning.{request_of}
use Rattle.slots.specs.Rules.{New}
use Rattle.text.specs.Text.{blank, joined, head_line, code_line, text_of}

-- the line of an operation as the struct holds it
abbrev pub line_of : Op → List ℕ
line_of o = code_line o.code o.cell o.second o.amount

-- THE BYTES OF A RECORD: a number of four bytes, low byte first; an operation; what stands before the operations; a slot
abbrev pub word_bytes : ℕ → List ℕ
word_bytes n = n % 256 ∷ n / 256 % 256 ∷ n / 65536 % 256 ∷ n / 16777216 ∷ []

abbrev pub bytes_of_op : Op → List ℕ
bytes_of_op o = o.code ∷ o.cell ∷ o.second ∷ 0 ∷ word_bytes o.amount

abbrev pub bytes_of_head : (id class count : ℕ) → List ℕ
bytes_of_head id class count = word_bytes id ++ (class ∷ count ∷ 0 ∷ 0 ∷ [])

abbrev pub bytes_of_record : Slot → List ℕ
bytes_of_record v = bytes_of_head v.id v.class v.count ++ joined bytes_of_op v.ops

-- READING: a word with a blank behind it stands at the start of a text
abbrev pub Begins : List ℕ → List ℕ → Type 0
Begins word text = (rest : List ℕ) × (text ≡ word ++ (blank ∷ rest))

-- the name of a code stands at the start of a text with its blank, or no name does
pub record NameAt (text : List ℕ) (code : ℕ) (rest : List ℕ) : Type 0 where
  pub known : (1 ≤ code) × (code ≤ 4)
  pub stands : text ≡ get_or names code [] ++ (blank ∷ rest)

abbrev pub NoName : List ℕ → Type 0
NoName text = (c : ℕ) (more : List ℕ) → 1 ≤ c → c ≤ 4 → text ≡ get_or names c [] ++ (blank ∷ more) → ⊥

-- a second cell with its blank, where an operation of the code uses one, before the rest
abbrev pub second_before : ℕ → ℕ → List ℕ → List ℕ
second_before code j rest = cond (get_or uses_second code false) (decimal j ++ (blank ∷ rest)) rest

pub record SecondAt (text : List ℕ) (code value : ℕ) (rest : List ℕ) : Type 0 where
  pub small : value ≤ 255
  pub stands : text ≡ second_before code value rest
  pub unused : get_or uses_second code false ≡ false → value ≡ 0

abbrev pub NoSecond : (code : ℕ) → List ℕ → Type 0
NoSecond code text = (j : ℕ) (more : List ℕ) → j ≤ 255 → text ≡ second_before code j more → ⊥

-- the line of an operation that keeps its rules, or no such line
pub record OpLineAt (text : List ℕ) (o : Op) (rest : List ℕ) : Type 0 where
  pub rules : OpOk o
  pub stands : text ≡ line_of o ++ rest

abbrev pub NoOpLine : List ℕ → Type 0
NoOpLine text = (p : Op) (more : List ℕ) → OpOk p → text ≡ line_of p ++ more → ⊥

-- the first line of a valid text, or none
pub record HeadRules (id class : ℕ) : Type 0 where
  pub id_not_zero : 1 ≤ id
  pub id_fits : id < word
  pub class_fits : class < class_count

pub record HeadAt (text : List ℕ) (id class : ℕ) (rest : List ℕ) : Type 0 where
  pub rules : HeadRules id class
  pub stands : text ≡ head_line id class ++ rest

abbrev pub NoHead : List ℕ → Type 0
NoHead text = (i c : ℕ) (more : List ℕ) → HeadRules i c → text ≡ head_line i c ++ more → ⊥

-- a whole text: the slot of its request
pub record Parses (text : List ℕ) (v : Slot) : Type 0 where
  pub long : length v.ops ≡ most_ops
  pub new : New v
  pub stands : text ≡ text_of (request_of v)
