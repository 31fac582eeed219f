-- `Site::forward` meets its contract: a number, and a move among the places. Assumes nothing.
use Rattle.store.specs.Store.{Store}
use mathlib.Core.Path.{ap}
use Rattle.site.proofs.Site.forward.Goals as goal

pub returns : goal.returns
returns c = let numbered· = c.numbered-self in record {
  slots = ap (λ (z : Store). z.slots) numbered·.ensures;
  queue = rw (ap (λ (z : Store). z.queue) numbered·.ensures) at c.move_forward.ensures;
  lens = ap (λ (z : Store). z.lens) numbered·.ensures;
  map = (ap (λ (z : Store). z.low) numbered·.ensures, ap (λ (z : Store). z.high) numbered·.ensures);
  confirmations = ap (λ (z : Store). z.confirmations) numbered·.ensures;
  commits = ap (λ (z : Store). z.commits) numbered·.ensures;
  kept = ap (λ (z : Store). z.kept) numbered·.ensures;
  queries = ap (λ (z : Store). z.queries) numbered·.ensures;
  begun = ap (λ (z : Store). z.begun) numbered·.ensures;
  sums = ap (λ (z : Store). z.sums) numbered·.ensures;
}
