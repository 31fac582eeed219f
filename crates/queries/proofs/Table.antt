-- The lowest free index of the table is the first that passes the test. Assumes nothing.
use Rattle.std.proofs.Common.{◌≡◌, ℕ, suc, ◌+◌, ◌<◌, Bool, true, false, cond, Option, List, [], ◌∷◌, length, get_or, eqb, refl, sym, ap, ◌∙◌, arith, rules, add-zero, IfSome, IfNone, Some, None}
use Rattle.std.specs.List.{HoldsAt, AllWithin}
use Rattle.std.specs.Option.{MatchOption, unwrap_or}
use Rattle.std.proofs.lemmas.Iterator.{index_from_first}
use Rattle.plain.specs.Site.{lowest}
use Rattle.plain.proofs.Tests.{by_test}
use Rattle.queries.specs.declared.Query.{Query}
use Rattle.queries.specs.Table.{free_query, is_free_at, lowest_free_place}

abbrev pub is_free : Query → Bool
is_free q = eqb q.classes 0

-- how many stand before the first free one
abbrev first_free : List Query → ℕ
first_free [] = 0
first_free (q ∷ l) = cond (is_free q) 0 (first_free l + 1)

from_there : (table l : List Query) (from : ℕ) → ((k : ℕ) → get_or l k free_query ≡ get_or table (from + k) free_query)
    → lowest (is_free_at table) from (length l) ≡ from + first_free l
from_there table [] from h = omega arith
from_there table (q ∷ l) from h =
    let rest = from_there table l (suc from) (λ k. h (suc k) ∙ search rules) in
    let here : is_free q ≡ is_free_at table from = ap is_free (simp add-zero at (h 0)) in
    by_test (is_free q) (λ y. rw (← here, y) (omega arith)) (λ f. rw (← here, f) (omega (arith, rest)))

place_is : (table : List Query) (n : ℕ) → length table ≡ n → lowest (is_free_at table) 0 n ≡ first_free table
place_is table n e = rw (← e) (from_there table table 0 (λ k. search rules) ∙ omega arith)

-- what a search for the first of the table tells
pub record FirstIs (table : List Query) (r : Option ℕ) : Type 0 where
  pub some : IfSome r (λ p. (p ≡ lowest_free_place table) × (p < 8))
  pub none : IfNone r (lowest_free_place table ≡ 8)

pub first_is : (table : List Query) (r : Option ℕ) → length table ≡ 8
    → MatchOption r (AllWithin (λ q. is_free q ≡ false) table 0 (length table))
    (λ i. (i < length table) × HoldsAt (λ q. is_free q ≡ true) table i × AllWithin (λ q. is_free q ≡ false) table 0 i)
    → FirstIs table r
unfolding lowest_free_place
first_is table r e h = go r h (place_is table 8 e ∙ index_from_first first_free (λ q. is_free q ≡ true) (λ q. is_free q ≡ false) refl (λ q l y. rw y) (λ q l f. rw f) table r h)
  where
    go : (r : Option ℕ) → MatchOption r (AllWithin (λ q. is_free q ≡ false) table 0 (length table))
        (λ i. (i < length table) × HoldsAt (λ q. is_free q ≡ true) table i × AllWithin (λ q. is_free q ≡ false) table 0 i)
        → lowest (is_free_at table) 0 8 ≡ unwrap_or r (length table) → FirstIs table r
    go None h n = record { some = tt; none = n ∙ e }
    go (Some i) h n = record { some = (sym n, omega (arith, h.0)); none = tt }
