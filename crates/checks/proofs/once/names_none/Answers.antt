-- A mask that is not 0 names a class. Assumes nothing.
use borrow.Author.Rules.{rules}
use Rattle.plain.proofs.Deciding.{decides_as, decides_eq}
use Rattle.store.proofs.Taking.{names_zero, names_none_lem}
use Rattle.checks.proofs.once.names_none.Goals as goal

pub returns : goal.returns
returns c = decides_as (λ e d _. names_none_lem _ d e) (λ h. names_zero _ (search rules) h) (decides_eq _ 0)
