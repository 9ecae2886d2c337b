use Rattle.elim_rule_laws.proofs.Between.{lower-met, upper-met}
use Rattle.elim_rule_laws.proofs.bounds.one_sided_law.Goals as goal

pub returns : goal.returns
returns c = record { lower = lower-met; upper = upper-met }
