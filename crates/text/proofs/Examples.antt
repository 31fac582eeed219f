-- Texts by computing: what the definitions come to. Assumes nothing.
use mathlib.Core.Path.{◌≡◌, refl}
use mathlib.Core.List.{[], ◌∷◌}
use Rattle.plain.specs.Ops.{put, move}
use Rattle.decimal.specs.Decimal.{count, decimal, blanked}
use Rattle.text.specs.Text.{line_with, text_of}
use Rattle.text.specs.Lines.{line_behind}

-- 7 3, put 0 100, move 1 2 5
pub booking : text_of (record { id = 7; class = 3; ops = put 0 100 ∷ move 1 2 5 ∷ [] })
    ≡ 55 ∷ 32 ∷ 51 ∷ 10 ∷ 112 ∷ 117 ∷ 116 ∷ 32 ∷ 48 ∷ 32 ∷ 49 ∷ 48 ∷ 48 ∷ 10 ∷ 109 ∷ 111 ∷ 118 ∷ 101 ∷ 32 ∷ 49 ∷ 32 ∷ 50 ∷ 32 ∷ 53 ∷ 10 ∷ []
unfolding text_of line_with blanked decimal count
booking = refl

-- the second line of a text, one without its newline, and one past the end
pub second_lines : (line_behind 1 (55 ∷ 10 ∷ 56 ∷ 10 ∷ []) ≡ 56 ∷ 10 ∷ []) × (line_behind 1 (55 ∷ 10 ∷ 56 ∷ []) ≡ 56 ∷ []) × (line_behind 1 (55 ∷ 10 ∷ []) ≡ [])
second_lines = (refl, refl, refl)
