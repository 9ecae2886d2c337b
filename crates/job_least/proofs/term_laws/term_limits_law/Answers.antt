use Rattle.job_least.proofs.Limits.{ranged, shallow}
use Rattle.job_least.proofs.term_laws.term_limits_law.Goals as goal

pub returns-clause-shallow : goal.returns-clause-shallow
returns-clause-shallow c = shallow

pub returns-clause-ranged : goal.returns-clause-ranged
returns-clause-ranged c = ranged
