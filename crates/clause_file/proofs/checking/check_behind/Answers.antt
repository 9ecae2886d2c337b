use Rattle.std.proofs.Common.{refl, ◌∙◌}
use Rattle.clause_file.specs.Costs as cost
use Rattle.clause_file.specs.Verdicts as verdict
use Rattle.clause_file.proofs.checking.check_behind.Goals as goal

pub returns-in_default : goal.returns-in_default
returns-in_default c = cost.preparation c.args.head.now c.args.text.now c.requires.begins c.in_default.ensures.passes refl

pub returns-then-len-count : goal.returns-then-len-count
returns-then-len-count c = verdict.values c.args.head.now c.args.text.now c.requires.begins (λ same. c.if-len-count.true (c.len.ensures ∙ same)) refl
