use Rattle.elim_rule_laws.proofs.Solving.{solvable-divides, solution-is}
use Rattle.elim_rule_laws.proofs.divisions.solvable_law.Goals as goal

pub returns : goal.returns
returns k = λ a s. (λ h. solvable-divides a s h.0 h.1, λ d. solution-is a s d)
