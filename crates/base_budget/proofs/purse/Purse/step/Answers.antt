use Rattle.base_budget.proofs.Charging.{pay_ok, pay_refused}
use Rattle.base_budget.proofs.purse.Purse.step.Goals as goal

pub returns-in_err-charge : goal.returns-in_err-charge
returns-in_err-charge c k is = pay_refused k _ _ is c.in_err-charge.ensures.refused c.in_err-charge.ensures.kept c.from_residual.ensures.1

pub returns : goal.returns
returns c k is = pay_ok k _ is c.in_ok-charge.ensures.ok c.in_ok-charge.ensures.spends
