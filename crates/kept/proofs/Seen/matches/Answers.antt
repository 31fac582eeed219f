-- A number that is kept has the id under it; else the id is not kept. Assumes nothing.
use mathlib.Core.Path.{refl, sym}
use borrow.Author.Tests.{not-true, not-false}
use Rattle.plain.proofs.Deciding.{decides_as, decides_eq}
use Rattle.kept.proofs.Places.{number_kept, id_free, has_number}
use Rattle.kept.proofs.Seen.matches.Goals as goal

pub returns-then-is_recent : goal.returns-then-is_recent
returns-then-is_recent c =
    let pre· = c.requires in
    let recent = c.is_recent.ensures.yes c.if-is_recent.true in
    decides_as (λ e. number_kept _ _ pre·.1 pre·.2 _ _ pre·.3 recent (sym e)) (λ h. sym ((h _ recent).0 refl)) (decides_eq _ _)

pub returns : goal.returns
returns c =
    let pre· = c.requires in
    let old = c.is_recent.ensures.no c.if-is_recent.false in
    record {
      yes = λ e. id_free _ _ pre·.1 pre·.2 _ _ pre·.3 (λ a. c.stands.ensures.no (not-true _ e) (pre·.3, a)) old;
      no = λ f h. old (has_number _ _ pre·.1 pre·.2 _ _ pre·.3 (c.stands.ensures.yes (not-false _ f)).1 h);
    }
