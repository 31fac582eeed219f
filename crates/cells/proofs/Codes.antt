-- What a byte's code says of the byte. Assumes nothing.
use Rattle.std.proofs.Common.{◌≡◌, ℕ, ◌≤◌, true, Result, Ok, Err, refl, arith}
use Rattle.std.specs.Result.{is_ok, is_err}
use Rattle.plain.proofs.Tests.{no}
use Rattle.cells.specs.declared.Code.{Code}
use Rattle.cells.specs.declared.Code.TheVariants.{Put, Add, Need, Move}
use Rattle.cells.specs.declared.NoCode.{NoCode}
use Rattle.cells.specs.Codes.{Decodes, IsNoCode, code_byte}

pub of_code : (byte : ℕ) (r : Result Code NoCode) (code : Code) → Decodes byte r → r ≡ Ok code → code_byte code ≡ byte
of_code byte r code d e = rw e at d

known : (code : Code) → (1 ≤ code_byte code) × (code_byte code ≤ 4)
known Put = (omega arith, omega arith)
known Add = (omega arith, omega arith)
known Need = (omega arith, omega arith)
known Move = (omega arith, omega arith)

pub byte_known : (byte : ℕ) (r : Result Code NoCode) → Decodes byte r → is_ok r ≡ true → (1 ≤ byte) × (byte ≤ 4)
byte_known byte (Ok code) d e = rw d at (known code)
byte_known byte (Err x) d e = no _ e refl

pub byte_unknown : (byte : ℕ) (r : Result Code NoCode) → Decodes byte r → is_err r ≡ true → IsNoCode byte
byte_unknown byte (Ok code) d e = no _ e refl
byte_unknown byte (Err x) d e = d
