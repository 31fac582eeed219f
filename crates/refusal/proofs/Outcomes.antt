-- A refusal is no length: what is known where a call of `write` or `read` is refused, and where none was. Assumes nothing.
use Rattle.std.proofs.Common.{◌≡◌, ℕ, false, Option, Some, None, is_some, refl, arith}
use Rattle.plain.proofs.Tests.{no}
use Rattle.text.specs.declared.Refused.{Refused}
use Rattle.text.specs.declared.Refused.TheVariants.{NoRecord, BadText, TooShort}
use Rattle.text.specs.Calls.{wrote, refusal_of, answer_up_to}

pub no_length : (e : Refused) (n : ℕ) → refusal_of e ≡ wrote n → ⊥
no_length NoRecord n q = let z : ◌≡◌ {A = ℕ} 0 1 = cc in omega arith
no_length (BadText line) n q = let z : ◌≡◌ {A = ℕ} 0 1 = cc in omega arith
no_length TooShort n q = let z : ◌≡◌ {A = ℕ} 0 1 = cc in omega arith

pub none_refused : (n : ℕ) (refused : Option Refused) → is_some refused ≡ false → answer_up_to n refused ≡ wrote n
none_refused n None e = refl
none_refused n (Some r) e = no _ refl e
