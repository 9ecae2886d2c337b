use Rattle.elim_rule_laws.proofs.Dividing.{remainder-of, remainder-excludes}
use Rattle.elim_rule_laws.proofs.divisions.remainder_law.Goals as goal

pub returns : goal.returns
returns k = λ d t some. (λ no_divisor. remainder-of d t some no_divisor, λ h. remainder-excludes d t h)
