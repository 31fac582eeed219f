use Prim.Native.Nat.{◌+◌}
use mathlib.Core.List.{List}
use Rattle.slots.specs.declared.Slot.{Slot}
use Rattle.store.proofs.Gathered.{StageTo}
use Rattle.checks.proofs.gather.gather_stages.Given as goal

abbrev pub invariant-loop-at : goal.invariant-loop-at
invariant-loop-at l = StageTo l.fn.slots l.fn.table l.g.lines l.g.dones l.g.marks l.g.dues l.at l.at

-- whatever the slots are
abbrev pub invariant-loop-p : goal.invariant-loop-p
invariant-loop-p state =
    (l : List Slot) → StageTo l state.fn.table state.initial.g.lines state.initial.g.dones state.initial.g.marks state.initial.g.dues 128 128
    → StageTo l state.fn.table state.g.lines state.g.dones state.g.marks state.g.dues 128 (128 + state.p)
