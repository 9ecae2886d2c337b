use Rattle.elim_rule_laws.proofs.Between.{splinter}
use Rattle.elim_rule_laws.proofs.bounds.splinter_law.Goals as goal

pub returns : goal.returns
returns c = splinter
