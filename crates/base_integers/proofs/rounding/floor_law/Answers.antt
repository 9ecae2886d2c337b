use Rattle.base_integers.proofs.Floors.{floor-is, floor-only, floor-below, floor-above, floor-exact, floor-sum, floor-shifted, floor-shifted_back}
use Rattle.base_integers.proofs.rounding.floor_law.Goals as goal

pub returns : goal.returns
returns c = record {
  floor = floor-is;
  only = floor-only;
  multiples = λ a b x h. (floor-below a b x h, floor-above a b x h);
  exact = floor-exact;
  sum = floor-sum;
  sign = λ x a b h. (floor-shifted x a b h, floor-shifted_back x a b h);
}
