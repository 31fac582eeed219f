-- What a site holds: the record that the struct Site of the crate above has field by field, and what its type says. Assumes nothing.
use Rattle.std.specs.Prelude.{ℕ, ◌<◌, ◌^◌, ◌≡◌, List, length, get_or}
use Rattle.plain.specs.Sizes.{class_count, slot_count, query_count, most_ops, word, kept_count}
use Rattle.slots.specs.declared.Slot.{Slot}
use Rattle.slots.specs.Meaning.{slot_at}
use Rattle.queries.specs.declared.Query.{Query}
use Rattle.queries.specs.Table.{free_query}

-- the query at index p, which has the place p + 1; what stands past the end is free
abbrev pub query_at : List Query → ℕ → Query
query_at l p = get_or l p free_query

pub record Store : Type 0 where
  pub slots : List Slot
  pub queue : List ℕ
  pub lens : List ℕ
  pub low : ℕ
  pub high : ℕ
  pub confirmations : ℕ
  pub commits : ℕ
  pub kept : List ℕ
  pub queries : List Query
  -- the queries begun
  pub begun : ℕ
  -- for each class the work calls that its confirmed part takes
  pub sums : List ℕ

-- the flat queue places: 136 for each class
abbrev pub place_count : ℕ
place_count = 2176

-- the cells of a run: 64 for each class
abbrev pub run_size : ℕ
run_size = 1024

-- what the declared types say: the arrays' lengths and the words' ranges. No rule: every site has it
pub record Shaped (s : Store) : Type 0 where
  pub slots : length s.slots ≡ slot_count
  pub ops : (i : ℕ) → i < slot_count → length (slot_at s.slots i).ops ≡ most_ops
  pub ids : (i : ℕ) → i < slot_count → (slot_at s.slots i).id < word
  pub queue : length s.queue ≡ place_count
  pub lens : length s.lens ≡ class_count
  pub low : s.low < 2 ^ 64
  pub high : s.high < 2 ^ 64
  pub kept : length s.kept ≡ kept_count
  pub queries : length s.queries ≡ query_count
  pub masks : (p : ℕ) → (query_at s.queries p).classes < 2 ^ 16
  pub sums : length s.sums ≡ class_count
