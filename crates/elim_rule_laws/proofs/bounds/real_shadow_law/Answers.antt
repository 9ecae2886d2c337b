use Rattle.elim_rule_laws.proofs.Between.{real_shadow}
use Rattle.elim_rule_laws.proofs.bounds.real_shadow_law.Goals as goal

pub returns : goal.returns
returns c = real_shadow
