-- `Site::heads_given` meets its contract: each piece decides its rules, over the fields gathered into lists. Assumes nothing.
use Rattle.site.specs.Held.{store}
use Rattle.plain.proofs.Deciding.{decides_false, decides_as}
use Rattle.store.proofs.Gathered.{slots_ok, gathered, unnumbered, laid_is, kept_is}
use Rattle.site.proofs.Site.heads_given.Goals as goal

pub returns-then-not-kept_ok : goal.returns-then-not-kept_ok
returns-then-not-kept_ok c =
    let s = store c.args.self in
    let g = gathered s c.requires.owned c.gather_stages-stages.ensures in
    record { decides = decides_false (λ h. (kept_is s g c.kept_ok.ensures).no c.if-not-kept_ok.true h.3); heads = tt }

pub laid_out-requires : goal.laid_out-requires
laid_out-requires c =
    let s = store c.args.self in
    unnumbered s (gathered s c.requires.owned c.gather_stages-stages.ensures) (slots_ok s _ c.requires.in_order).0

pub returns-clause-decides : goal.returns-clause-decides
returns-clause-decides c =
    let s = store c.args.self in
    let g = gathered s c.requires.owned c.gather_stages-stages.ensures in
    let ok = slots_ok s _ c.requires.in_order in
    rw c.ok.ensures.variant (decides_as (λ laid. (ok.0, ok.1, laid, (kept_is s g c.kept_ok.ensures).yes c.if-not-kept_ok.false)) (λ h. h.2) (laid_is s g c.laid_out.ensures.decides))
