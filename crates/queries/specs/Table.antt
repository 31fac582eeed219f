-- A mask with one class more, and with one less. Assumes nothing.
use Rattle.std.specs.Prelude.{ℕ, ◌<◌, ◌≡◌, Bool, true, false, List, eqb, get_or}
use Rattle.plain.specs.Site.{named, lowest}
use Rattle.queries.specs.declared.Query.{Query}

pub record Grown (m c n : ℕ) : Type 0 where
  pub own : named n c ≡ true
  pub others : (d : ℕ) → d < 16 → (d ≡ c → ⊥) → named n d ≡ named m d

pub record Shrunk (m c n : ℕ) : Type 0 where
  pub own : named n c ≡ false
  pub others : (d : ℕ) → d < 16 → (d ≡ c → ⊥) → named n d ≡ named m d

-- the query at index p of a table; past its end a free one
abbrev pub free_query : Query
free_query = record { classes = 0; begun = 0 }

abbrev pub is_free_at : List Query → ℕ → Bool
is_free_at table p = eqb (get_or table p free_query).classes 0

-- the lowest index that is free, 8 if none is
unfoldable pub lowest_free_place : List Query → ℕ
lowest_free_place table = lowest (is_free_at table) 0 8
