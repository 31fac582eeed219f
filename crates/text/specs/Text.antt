-- The text form of a request: a line with id and class, then a line for each operation. Assumes nothing.
use Rattle.std.specs.Prelude.{ℕ, false, cond, List, [], ◌∷◌, ◌++◌, get_or}
use Rattle.plain.specs.Ops.{Op, put, add, need, move, Request}
use Rattle.plain.specs.Record.{uses_second, names}
use Rattle.decimal.specs.Decimal.{decimal, blanked}

-- the blank that splits, and the newline that ends a line
abbrev pub blank : ℕ
blank = 32

abbrev pub newline : ℕ
newline = 10

-- a line: what comes first, numbers with a blank before each, and a newline
unfoldable pub line_with : List ℕ → List ℕ → List ℕ
line_with first ns = first ++ (blanked ns ++ (newline ∷ []))

-- by the table: the numbers of an operation are its cell, its second cell where it uses one, and its amount; its name comes first
abbrev pub numbers_of : (code cell second amount : ℕ) → List ℕ
numbers_of code k j a = k ∷ cond (get_or uses_second code false) (j ∷ a ∷ []) (a ∷ [])

abbrev pub code_line : (code cell second amount : ℕ) → List ℕ
code_line code k j a = line_with (get_or names code []) (numbers_of code k j a)

-- the line of an operation
abbrev pub op_line : Op → List ℕ
op_line (put k a) = code_line 1 k 0 a
op_line (add k a) = code_line 2 k 0 a
op_line (need k a) = code_line 3 k 0 a
op_line (move k j a) = code_line 4 k j a

-- the texts of all of a list, one behind another
abbrev pub joined : {A : Type 0} → (A → List ℕ) → List A → List ℕ
joined text [] = []
joined text (x ∷ l) = text x ++ joined text l

abbrev pub op_lines : List Op → List ℕ
op_lines os = joined op_line os

-- the first line
abbrev pub head_line : (id class : ℕ) → List ℕ
head_line id class = line_with (decimal id) (class ∷ [])

-- THE TEXT OF A REQUEST
unfoldable pub text_of : Request → List ℕ
text_of r = head_line r.id r.class ++ op_lines r.ops
