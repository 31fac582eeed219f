use Prim.Native.Nat.{ℕ, ◌<◌}
use mathlib.Core.Path.{◌≡◌}
use Rattle.plain.specs.Decides.{Decides}
use Rattle.store.specs.Store.{query_at}
use Rattle.checks.proofs.free_zero.Given as goal

abbrev pub invariant-loop-q : goal.invariant-loop-q
invariant-loop-q l = Decides l.zero ((k : ℕ) → k < l.q-index → (query_at l.fn.table k).classes ≡ 0 → (query_at l.fn.table k).begun ≡ 0)
