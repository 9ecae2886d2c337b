use Rattle.linear_term.proofs.Names.{without-unmentioned, value_of-unmentioned, coef_of-unmentioned, unmentioned_from_coef, over-unmentioned}
use Rattle.linear_term.proofs.laws.unmentioned_law.Goals as goal

pub returns : goal.returns
returns c = record {
  without = without-unmentioned;
  value = value_of-unmentioned;
  coefficient = coef_of-unmentioned;
  zero = unmentioned_from_coef;
  over = over-unmentioned;
}
