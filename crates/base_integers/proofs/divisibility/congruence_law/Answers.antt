use Rattle.base_integers.proofs.Divisors.{congruent-refl, congruent-sym, congruent-trans, congruent-sum, congruent-multiple, congruent-divides, divides-congruent}
use Rattle.base_integers.proofs.divisibility.congruence_law.Goals as goal

pub returns : goal.returns
returns c = record {
  reflexive = congruent-refl;
  symmetric = congruent-sym;
  transitive = congruent-trans;
  sum = congruent-sum;
  multiple = congruent-multiple;
  test = divides-congruent;
  divides = congruent-divides;
}
