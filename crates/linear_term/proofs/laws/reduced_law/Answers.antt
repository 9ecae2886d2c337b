use Rattle.linear_term.proofs.Names.{reduced-normal, reduced-combination, reduced-without}
use Rattle.linear_term.proofs.laws.reduced_law.Goals as goal

pub returns : goal.returns
returns c = record {
  normal = reduced-normal;
  combination = λ m s n t. reduced-combination m n s t;
  without = reduced-without;
}
