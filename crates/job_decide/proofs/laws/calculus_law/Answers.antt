use Rattle.job_decide.proofs.Means.{calculus_alone}
use Rattle.job_decide.proofs.laws.calculus_law.Goals as goal

pub returns : goal.returns
returns c = calculus_alone
