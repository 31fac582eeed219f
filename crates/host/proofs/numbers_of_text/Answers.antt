-- Each case's numbers are those of its answer. Assumes nothing.
use Prim.Native.Nat.{ℕ}
use mathlib.Core.Path.{◌≡◌, refl}
use mathlib.Core.List.{List, [], ◌∷◌}
use Rattle.std.proofs.Common.{Result}
use Rattle.text.specs.declared.Refused.{Refused}
use Rattle.text.specs.declared.Refused.TheVariants.{NoRecord, BadText, TooShort}
use Rattle.text.specs.Calls.{number_of, refusal_of, answer_of}
use Rattle.host.specs.Told.{told_text, bad_line_of}
use Rattle.host.proofs.Told.{known}
use Rattle.host.proofs.numbers_of_text.Goals as goal

-- what is told of one
abbrev said : Result ℕ Refused → List ℕ
said x = told_text (answer_of x)

refused_text : (e : Refused) → (0 ∷ number_of e ∷ bad_line_of e ∷ 0 ∷ 0 ∷ 0 ∷ []) ≡ told_text (refusal_of e)
refused_text NoRecord = refl
refused_text (BadText line) = refl
refused_text TooShort = refl

pub returns-in-Ok : goal.returns-in-Ok
returns-in-Ok c = known said _ _ _ c.in-Ok.is refl

pub returns-in-Err : goal.returns-in-Err
returns-in-Err c = known said _ _ _ c.in-Err.is (rw (c.number.ensures, c.bad_line.ensures) (refused_text c.in-Err.refused))
