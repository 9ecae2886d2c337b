use Rattle.base_integers.proofs.Residues.{least_from-bound, least_from-congruent, least_from-least, greatest_to-bound, greatest_to-congruent, greatest_to-greatest}
use Rattle.base_integers.proofs.rounding.next_law.Goals as goal

pub returns : goal.returns
returns c = record {
  from = least_from-bound;
  from_congruent = least_from-congruent;
  least = least_from-least;
  to = greatest_to-bound;
  to_congruent = greatest_to-congruent;
  greatest = greatest_to-greatest;
}
