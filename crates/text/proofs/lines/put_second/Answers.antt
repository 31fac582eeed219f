-- The table says whether there is one. Assumes nothing.
use Rattle.std.proofs.Common.{◌≡◌, false, get_or, sym, arith}
use mathlib.Core.List.{append-nil}
use Rattle.plain.specs.Record.{uses_second}
use Rattle.cells.specs.Codes.{code_byte}
use Rattle.text.proofs.Forms.{none_blanked}
use Rattle.text.proofs.lines.put_second.Goals as goal

pub returns-then-not-byte : goal.returns-then-not-byte
returns-then-not-byte c =
    let unused : get_or uses_second (code_byte c.args.code) false ≡ false = rw c.from-byte.ensures at c.if-not-byte.true in
    rw (unused, none_blanked) (record { value = omega arith; to_after = sym (append-nil _) })
