use Rattle.elim_rule_laws.proofs.Solving.{unused-truth}
use Rattle.elim_rule_laws.proofs.equation_rules.unused_law.Goals as goal

pub returns : goal.returns
returns k = unused-truth
