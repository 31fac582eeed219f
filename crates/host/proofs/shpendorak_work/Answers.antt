-- The numbers and the cells of an entry are those of the call's answer. Assumes nothing.
use mathlib.Core.Path.{◌∙◌}
use Rattle.host.proofs.Told.{readable, same_told}
use Rattle.host.proofs.shpendorak_work.Goals as goal

pub show-requires : goal.show-requires
show-requires c = let work = c.work-reply in readable _ _ _ work.result.answer work.ensures

pub returns : goal.returns
returns c =
    let work = c.work-reply in
    record {
      told = record { answer = _; promised = work.ensures; says = c.tell.ensures ∙ same_told _ work.result.answer _ };
      cells = c.show.ensures;
    }
