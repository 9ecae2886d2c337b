use Rattle.elim_rule_laws.proofs.Between.{exact_lower, exact_upper}
use Rattle.elim_rule_laws.proofs.bounds.exact_shadow_law.Goals as goal

pub returns : goal.returns
returns c = record { lower = exact_lower; upper = exact_upper }
