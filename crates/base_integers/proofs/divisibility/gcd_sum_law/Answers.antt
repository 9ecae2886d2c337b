use Rattle.base_integers.proofs.Divisor.{gcd-sum}
use Rattle.base_integers.proofs.divisibility.gcd_sum_law.Goals as goal

pub returns : goal.returns
returns c = gcd-sum
