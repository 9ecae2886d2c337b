use Rattle.base_integers.proofs.Divisor.{gcd-is, gcd-only, gcd-divides_left, gcd-divides_right, gcd-greatest, gcd-comm, gcd-zero, gcd-positive}
use Rattle.base_integers.proofs.divisibility.gcd_law.Goals as goal

pub returns : goal.returns
returns c = record {
  greatest = gcd-is;
  only = gcd-only;
  left = gcd-divides_left;
  right = gcd-divides_right;
  common = gcd-greatest;
  commutative = gcd-comm;
  zero = gcd-zero;
  positive = gcd-positive;
}
