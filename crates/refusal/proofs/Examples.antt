-- Lines written out. Assumes nothing.
use mathlib.Core.Path.{◌≡◌, refl}
use mathlib.Core.List.{[], ◌∷◌}
use Rattle.decimal.specs.Decimal.{count, decimal}
use Rattle.text.specs.Calls.{wrote, refused, refused_at}
use Rattle.refusal.specs.Said.{refusal_start, refusal_line}

-- `record 2: refused 15 at line 3`
bad_text : refusal_line 2 (refused_at 15 3) ≡ 114 ∷ 101 ∷ 99 ∷ 111 ∷ 114 ∷ 100 ∷ 32 ∷ 50 ∷ 58 ∷ 32 ∷ 114 ∷ 101 ∷ 102 ∷ 117 ∷ 115 ∷ 101 ∷ 100 ∷ 32 ∷ 49 ∷ 53 ∷ 32 ∷ 97 ∷ 116 ∷ 32 ∷ 108 ∷ 105 ∷ 110 ∷ 101 ∷ 32 ∷ 51 ∷ 10 ∷ []
unfolding refusal_start decimal count
bad_text = refl

-- `record 501: refused 3`
no_record : refusal_line 501 (refused 3) ≡ 114 ∷ 101 ∷ 99 ∷ 111 ∷ 114 ∷ 100 ∷ 32 ∷ 53 ∷ 48 ∷ 49 ∷ 58 ∷ 32 ∷ 114 ∷ 101 ∷ 102 ∷ 117 ∷ 115 ∷ 101 ∷ 100 ∷ 32 ∷ 51 ∷ 10 ∷ []
unfolding refusal_start decimal count
no_record = refl

-- nothing
taken : refusal_line 7 (wrote 64) ≡ []
taken = refl
