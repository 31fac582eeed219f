-- `queries::lowest_free` meets its contract: the first that is free is the lowest. Assumes nothing.
use Rattle.std.proofs.Common.{◌≡◌, true, false, rules}
use Rattle.std.proofs.lemmas.Iterator.{IsFirst-from_position, YieldsList-from_slice}
use borrow.Author.Tests.{tests}
use Rattle.queries.proofs.Table.{is_free, first_is}
use Rattle.queries.proofs.lowest_free.Goals as goal

pub returns : goal.returns
returns c =
    let t = c.args.table.now in
    let f = first_is t c.position.result c.told-table (IsFirst-from_position _ _ c.position.result (λ q. is_free q ≡ true) (λ q. is_free q ≡ false) c.position.ensures.ran (YieldsList-from_slice t cc) (λ x q k. search (rules, tests)) (λ x q k. search (rules, tests))) in
    record { some = f.some; none = f.none }
