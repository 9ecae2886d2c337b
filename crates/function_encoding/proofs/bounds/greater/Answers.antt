use Rattle.std.proofs.Common.{pos, negsuc}
use Rattle.formula.specs.Tree.{form}
use Rattle.formula.proofs.Making.{made_ok, made_err}
use Rattle.form_encoding.specs.Encoding.{inequality}
use Rattle.function_encoding.proofs.bounds.greater.Goals as goal

pub returns-in_err-other : goal.returns-in_err-other
returns-in_err-other c = made_err (λ u. u) form _ (λ u. inequality (pos 1) c.args.x (pos 1) u) _ c.from_residual.ensures.1 c.in_err-other.ensures

pub returns : goal.returns
returns c = made_ok (λ u. u) form _ (λ u. inequality (pos 1) c.args.x (pos 1) u) c.in_ok-other.ensures c.not_below.ensures
