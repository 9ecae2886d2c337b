use Rattle.formula.proofs.Duals.{dual_is, dual_over}
use Rattle.formula.proofs.Sameness.{pure_dual}
use Rattle.formula.proofs.laws.dual_law.Goals as goal

pub returns-clause-truth : goal.returns-clause-truth
returns-clause-truth c = dual_is

pub returns-clause-over : goal.returns-clause-over
returns-clause-over c = dual_over

pub returns-clause-pure : goal.returns-clause-pure
returns-clause-pure c = pure_dual
