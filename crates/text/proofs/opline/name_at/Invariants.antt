use Rattle.std.proofs.Common.{ℕ, ◌+◌, ◌<◌, [], get_or, drop}
use Rattle.plain.specs.Record.{names}
use Rattle.text.specs.Pieces.{Begins}
use Rattle.text.proofs.opline.name_at.Given as goal

abbrev pub invariant-loop-code : goal.invariant-loop-code
invariant-loop-code l = (j : ℕ) → j < l.code-index → Begins (get_or names (j + 1) []) (drop l.at l.text) → ⊥
