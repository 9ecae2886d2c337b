use Rattle.std.proofs.Common.{pos, negsuc}
use Rattle.linear_term.specs.Linear.{number}
use Rattle.base_budget.specs.Trace.{combining}
use Rattle.formula.proofs.Making.{made_ok, made_err}
use Rattle.function_encoding.proofs.atoms.less_one.Goals as goal

pub returns-in_err-all : goal.returns-in_err-all
returns-in_err-all c = made_err (λ u. u) (λ u. u) _ _ _ c.from_residual.ensures.1 c.in_err-all.ensures

pub returns : goal.returns
returns c = made_ok (λ u. u) (λ u. u) _ (λ d. combining (pos 1) d (pos 1) (number (negsuc 0))) c.in_ok-all.ensures c.one_less.ensures
