use Rattle.base_integers.proofs.Ring.{mul-add, add-mul, mul-sub, sub-mul, mul_assoc, neg-mul}
use Rattle.base_integers.proofs.arithmetic.ring_law.Goals as goal

pub returns : goal.returns
returns c = record {
  left = mul-add;
  right = add-mul;
  left_difference = mul-sub;
  right_difference = sub-mul;
  associative = mul_assoc;
  sign = neg-mul;
}
