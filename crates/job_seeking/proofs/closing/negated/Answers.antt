use Rattle.job_seeking.proofs.Seeking.{negation_made}
use Rattle.job_seeking.proofs.closing.negated.Goals as goal

pub returns-in-Ok : goal.returns-in-Ok
returns-in-Ok c = negation_made _ c.dual.result c.in-Ok.negation c.dual.ensures c.in-Ok.is
