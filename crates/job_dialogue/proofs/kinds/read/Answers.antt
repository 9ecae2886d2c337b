use Rattle.std.proofs.Common.{◌∙◌, ap, map}
use Rattle.smt_lists.specs.Expressions.{expr}
use Rattle.job_dialogue.specs.Dialogue.{lists}
use Rattle.job_dialogue.specs.Kinds.{reading_of}
use Rattle.job_dialogue.proofs.kinds.read.Goals as goal

pub returns-in-Ok : goal.returns-in-Ok
returns-in-Ok c = lists c.in-Ok.found c.in-Ok.ensures.found (c.reading_of.ensures ∙ ap (λ z. reading_of (map expr z)) c.as_slice.ensures)
