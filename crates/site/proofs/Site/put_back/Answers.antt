-- `Site::put_back` meets its contract: the head's slot is stored and its class's cells are copied. Assumes nothing.
use mathlib.Core.Path.{ap, ◌∙◌}
use Rattle.site.specs.Held.{store}
use Rattle.store.specs.Steps.{with_slot, head_slot}
use Rattle.store.proofs.Commit.{copied, uncopied}
use Rattle.site.proofs.Site.put_back.Goals as goal

pub returns : goal.returns
returns c =
    let the-args = c.args in
    let copy-class· = c.copy_class in
    let pre· = c.requires in
    record {
      is = ap (with_slot (store the-args.self) (head_slot (store the-args.self) the-args.c)) c.backed.ensures;
      cells = copy-class·.auto.to ∙ pre·.cells.1;
      own = copied the-args.working.now the-args.committed.now copy-class·.new.to the-args.c pre·.class pre·.cells.1 pre·.cells.0
          copy-class·.ensures;
      others = uncopied the-args.working.now the-args.committed.now copy-class·.new.to the-args.c pre·.class pre·.cells.1
          pre·.cells.0 copy-class·.ensures;
    }
