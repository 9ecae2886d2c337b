use Rattle.linear_term.proofs.Names.{value_of-without, value_of-put, value_of-without-put, coef_of-without_same, coef_of-without_other, normal-without}
use Rattle.linear_term.proofs.laws.without_law.Goals as goal

pub returns : goal.returns
returns c = record {
  value = value_of-without;
  put = value_of-put;
  free = value_of-without-put;
  coefficient = coef_of-without_same;
  others = coef_of-without_other;
  normal = normal-without;
}
