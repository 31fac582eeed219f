-- Both words decide. Assumes nothing.
use borrow.Author.Rules.{rules}
use Rattle.plain.proofs.Deciding.{decides_as, decides_eq}
use Rattle.store.proofs.Taking.{no_flags, words_zero}
use Rattle.checks.proofs.once.none_used.Goals as goal

pub returns-then-map-eq0 : goal.returns-then-map-eq0
returns-then-map-eq0 c = decides_as (λ e i _. no_flags _ _ c.if-map-eq0.true e i) (λ h. (words_zero _ _ (search rules) (search rules) h).1) (decides_eq _ 0)

pub returns-else-map-eq0 : goal.returns-else-map-eq0
returns-else-map-eq0 c = decides_as (λ e. absurd (c.if-map-eq0.false e)) (λ h. (words_zero _ _ (search rules) (search rules) h).0) (decides_eq _ 0)
