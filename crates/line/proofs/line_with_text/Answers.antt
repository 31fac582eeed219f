-- Behind the text the bytes are as they were before it was put: zero. Assumes nothing.
use Rattle.std.proofs.Common.{◌∙◌}
use Rattle.std.proofs.lemmas.List.{drop-replicate}
use Rattle.line.proofs.line_with_text.Goals as goal

pub returns-clause-rest : goal.returns-clause-rest
returns-clause-rest c = c.put-len.ensures.to_unchanged ∙ drop-replicate _ _ _
