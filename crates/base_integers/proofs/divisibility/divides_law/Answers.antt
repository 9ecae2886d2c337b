use Rattle.base_integers.proofs.Divisors.{Divides-sum, Divides-difference, Divides-multiple, Divides-product, Divides-trans, divides-product, Divides_from_test, test_from_Divides}
use Rattle.base_integers.proofs.divisibility.divides_law.Goals as goal

pub returns : goal.returns
returns c = record {
  sum = Divides-sum;
  difference = Divides-difference;
  multiple = Divides-multiple;
  product = Divides-product;
  transitive = Divides-trans;
  scaled = divides-product;
  test = λ d z. (Divides_from_test d z, test_from_Divides d z);
}
