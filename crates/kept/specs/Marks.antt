-- The marks by which a kept id is found quickly. Assumes nothing.
use Rattle.std.specs.Prelude.{ℕ, ◌%◌, ◌<◌, List, get_or}
use Rattle.plain.specs.Sizes.{kept_count}

-- marks go by an id's low twelve bits
abbrev pub mark_count : ℕ
mark_count = 4096

-- each of the first n kept ids has its mark set
abbrev pub MarkedUpTo : List ℕ → List ℕ → ℕ → Type 0
MarkedUpTo kept marks n = (p : ℕ) → p < n → 0 < get_or marks (get_or kept p 0 % mark_count) 0

abbrev pub Marks : List ℕ → List ℕ → Type 0
Marks kept marks = MarkedUpTo kept marks kept_count
