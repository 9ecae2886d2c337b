use Rattle.linear_term.proofs.Totals.{coef_of-combination, value_of-combination}
use Rattle.linear_term.proofs.laws.combination_law.Goals as goal

pub returns : goal.returns
returns c = record {
  value = λ m s n t. value_of-combination m n s t;
  coefficient = λ m s n t. coef_of-combination m n s t;
}
