use Rattle.base_integers.proofs.Order.{mul_le_right, mul_lt_right, le_of_mul_le, lt_of_mul_lt, mul_cancel, between_multiples}
use Rattle.base_integers.proofs.arithmetic.order_law.Goals as goal

pub returns : goal.returns
returns c = record {
  at_most = mul_le_right;
  below = mul_lt_right;
  at_most_back = le_of_mul_le;
  below_back = lt_of_mul_lt;
  cancels = mul_cancel;
  between = between_multiples;
}
