use Rattle.linear_term.proofs.Totals.{value_of-number, value_of-name, coef_of-name, coef_of-number}
use Rattle.linear_term.proofs.laws.atoms_law.Goals as goal

pub returns : goal.returns
returns c = record {
  number = value_of-number;
  name = value_of-name;
  coefficient = coef_of-name;
  no_coefficient = coef_of-number;
}
