-- All queries are looked at. Assumes nothing.
use Prim.Native.Nat.{ℕ, ◌<◌}
use native.Mathlib.Omega.{arith}
use mathlib.Core.Path.{◌≡◌}
use mathlib.Core.Bool.{Bool, true, false}
use mathlib.Core.List.{List}
use lib.ListN.{length}
use borrow.Author.Rules.{rules}
use borrow.Author.Tests.{tests}
use Rattle.std.specs.Bool.{MatchBool}
use Rattle.std.specs.List.{AllWithin, HoldsAt}
use Rattle.std.proofs.lemmas.Iterator.{cases_from_all, YieldsList-from_slice}
use Rattle.plain.specs.Decides.{Decides}
use Rattle.plain.proofs.Deciding.{decides_true, decides_false}
use Rattle.queries.specs.declared.Query.{Query}
use Rattle.queries.specs.Table.{free_query}
use Rattle.store.specs.Checks.{AllRead, NamesNone}
use Rattle.store.proofs.Taking.{read_past}
use Rattle.checks.proofs.once.all_read.Goals as goal

decides_read : (r : Bool) (t : List Query) → length t ≡ 8
    → MatchBool r (AllWithin (λ q. NamesNone q.classes) t 0 (length t)) ((k : ℕ) × (k < length t) × HoldsAt (λ q. NamesNone q.classes → ⊥) t k) → Decides r (AllRead t)
decides_read true t n h = decides_true (read_past t n (λ p l. h p free_query (omega arith) (omega arith)))
decides_read false t n h = decides_false (λ r. h.2 free_query (r h.0))

pub returns : goal.returns
returns c =
    let t = c.args.table.now in
    decides_read _ t (search rules) (cases_from_all _ _ _ (λ (q : Query). NamesNone q.classes) (λ q. NamesNone q.classes → ⊥) c.all.ensures.ran (YieldsList-from_slice t cc)
    (λ x q k. search (rules, tests)) (λ x q k. search (rules, tests)))
