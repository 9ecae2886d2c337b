use Rattle.linear_term.proofs.Pushed.{value-push, over-push}
use Rattle.linear_term.proofs.laws.monomial_law.Goals as goal

pub returns-clause-value : goal.returns-clause-value
returns-clause-value c = value-push

pub returns-clause-over : goal.returns-clause-over
returns-clause-over c = over-push
