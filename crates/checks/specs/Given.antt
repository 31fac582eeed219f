-- The rules that the check decides together, of the values that it is given. Assumes nothing.
use Rattle.std.specs.Prelude.{ℕ, List}
use Rattle.queries.specs.declared.Query.{Query}
use Rattle.usedmap.specs.declared.UsedMap.{UsedMap}
use Rattle.store.specs.Checks.{LaidOut, nth}
use Rattle.checks.specs.declared.gather.Owners.{Owners}
use Rattle.checks.specs.declared.gather.Stages.{Stages}

abbrev pub LaidGiven : Owners → Stages → (places lens sums : List ℕ) → List Query → UsedMap → (top commits : ℕ) → Type 0
LaidGiven o g places lens sums table m top commits =
    LaidOut (nth o.ids) (nth o.classes) (nth g.lines) (nth g.lines) (nth g.dones) (nth g.marks) (nth g.dues) places lens sums table m.lo m.hi top commits
