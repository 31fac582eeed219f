-- Lines by computing: what the definitions of specs/Text come to. Assumes nothing.
use mathlib.Core.Path.{◌≡◌, refl}
use mathlib.Core.List.{[], ◌∷◌}
use Rattle.plain.specs.Steps.{queued, unconfirmed}
use Rattle.decimal.specs.Decimal.{count, decimal, blanked}
use Rattle.line.specs.Text.{line_with, line_of}

-- 0
nothing : decimal 0 ≡ 48 ∷ []
unfolding decimal count
nothing = refl

-- 100
hundred : decimal 100 ≡ 49 ∷ 48 ∷ 48 ∷ []
unfolding decimal count
hundred = refl

-- 10 queued 7 3 1 0
tenth : line_of 10 (queued 7 3 1 0) ≡ 49 ∷ 48 ∷ 32 ∷ 113 ∷ 117 ∷ 101 ∷ 117 ∷ 101 ∷ 100 ∷ 32 ∷ 55 ∷ 32 ∷ 51 ∷ 32 ∷ 49 ∷ 32 ∷ 48 ∷ 10 ∷ []
unfolding line_with blanked decimal count
tenth = refl

-- 9 unconfirmed 2
ninth : line_of 9 (unconfirmed 2) ≡ 57 ∷ 32 ∷ 117 ∷ 110 ∷ 99 ∷ 111 ∷ 110 ∷ 102 ∷ 105 ∷ 114 ∷ 109 ∷ 101 ∷ 100 ∷ 32 ∷ 50 ∷ 10 ∷ []
unfolding line_with blanked decimal count
ninth = refl
