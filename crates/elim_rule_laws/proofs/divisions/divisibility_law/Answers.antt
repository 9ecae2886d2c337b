use Rattle.elim_rule_laws.proofs.Shift.{congruence-solutions}
use Rattle.elim_rule_laws.proofs.divisions.divisibility_law.Goals as goal

pub returns : goal.returns
returns k = congruence-solutions
