-- The codes of the operations, as bytes of a record. Assumes nothing.
use Rattle.std.specs.Prelude.{ℕ, ◌≡◌, ◌≤◌, Result, MatchResult}
use Rattle.cells.specs.declared.Code.{Code}
use Rattle.cells.specs.declared.Code.TheVariants.{Put, Add, Need, Move}
use Rattle.cells.specs.declared.NoCode.{NoCode}

-- the byte that stands for an operation
abbrev pub code_byte : Code → ℕ
code_byte Put = 1
code_byte Add = 2
code_byte Need = 3
code_byte Move = 4

-- no operation has this byte
abbrev pub IsNoCode : ℕ → Type 0
IsNoCode byte = 1 ≤ byte → byte ≤ 4 → ⊥

-- the operation with this byte, or that none has it
abbrev pub Decodes : ℕ → Result Code NoCode → Type 0
Decodes byte r = MatchResult r (λ code. code_byte code ≡ byte) (λ e. IsNoCode byte)
