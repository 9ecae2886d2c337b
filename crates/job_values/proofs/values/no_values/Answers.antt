use Rattle.std.proofs.Common.{refl, subst}
use Rattle.job_values.proofs.Found.{large_unfit, ranged_unfit}
use Rattle.pri_problem.specs.Encoded.{RefusesEncoding}
use Rattle.job_values.proofs.values.no_values.Goals as goal

pub returns-in-Large : goal.returns-in-Large
returns-in-Large c = λ p is. (refl, large_unfit p (subst (RefusesEncoding p) c.in-Large.is is))

pub returns-in-Overflow : goal.returns-in-Overflow
returns-in-Overflow c = λ p is. (refl, ranged_unfit p (subst (RefusesEncoding p) c.in-Overflow.is is))
