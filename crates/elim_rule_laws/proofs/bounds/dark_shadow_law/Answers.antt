use Rattle.elim_rule_laws.proofs.Between.{dark_shadow}
use Rattle.elim_rule_laws.proofs.bounds.dark_shadow_law.Goals as goal

pub returns : goal.returns
returns c = dark_shadow
