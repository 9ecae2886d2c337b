use Rattle.base_budget.proofs.Charging.{work_ok, work_err}
use Rattle.clause_set.proofs.negation.negated_equation.Goals as goal

pub returns-in_err-more : goal.returns-in_err-more
returns-in_err-more c = work_ok _ _ c.in_ok-less.ensures (work_err _ _ _ c.from_residual-in_err-more.ensures.1 c.in_err-more.ensures)
