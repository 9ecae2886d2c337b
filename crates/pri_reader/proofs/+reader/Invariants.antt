use Rattle.std.proofs.Common.{◌+◌, ◌-◌, ◌*◌, ◌<◌, ◌≤◌, [], ◌∷◌, length, false}
use Rattle.pri_reader.specs.Grammar.{conjunction, disjunction, equivalence, added}
use Rattle.pri_reader.specs.MachineStates.{a_minus, a_unary, arguments_of, chain_of, sum_of, under_chain, under_product, under_right, under_sum}
use Rattle.pri_reader.specs.Reading.{LeadsReader}
use Rattle.pri_reader.proofs.Chains.{BeginsAt}
use Rattle.pri_reader.proofs.+reader.Given as goal

abbrev pub decreases-formulas::and : goal.decreases-formulas::and
decreases-formulas::and l = 20 * (200 - l.depth) + 10

abbrev pub decreases-terms::application : goal.decreases-terms::application
decreases-terms::application l = 20 * (200 - l.depth) + 2

abbrev pub decreases-terms::arguments : goal.decreases-terms::arguments
decreases-terms::arguments l = 20 * (200 - l.depth) + 15

abbrev pub decreases-terms::conditional : goal.decreases-terms::conditional
decreases-terms::conditional l = 20 * (200 - l.depth) + 2

abbrev pub decreases-terms::factor : goal.decreases-terms::factor
decreases-terms::factor l = 20 * (200 - l.depth) + 3

abbrev pub decreases-formulas::imp : goal.decreases-formulas::imp
decreases-formulas::imp l = 20 * (200 - l.depth) + 12

abbrev pub decreases-formulas::or : goal.decreases-formulas::or
decreases-formulas::or l = 20 * (200 - l.depth) + 11

abbrev pub decreases-terms::pair : goal.decreases-terms::pair
decreases-terms::pair l = 20 * (200 - l.depth) + 1

abbrev pub decreases-terms::parenthesis : goal.decreases-terms::parenthesis
decreases-terms::parenthesis l = 20 * (200 - l.depth) + 1

abbrev pub decreases-formulas::part : goal.decreases-formulas::part
decreases-formulas::part l = 20 * (200 - l.depth) + 9

abbrev pub decreases-terms::product : goal.decreases-terms::product
decreases-terms::product l = 20 * (200 - l.depth) + 4

abbrev pub decreases-formulas::quantified : goal.decreases-formulas::quantified
decreases-formulas::quantified l = 20 * (200 - l.depth) + 7

abbrev pub decreases-formulas::rel : goal.decreases-formulas::rel
decreases-formulas::rel l = 20 * (200 - l.depth) + 6

abbrev pub decreases-terms::sum : goal.decreases-terms::sum
decreases-terms::sum l = 20 * (200 - l.depth) + 5

abbrev pub decreases-formulas::unary : goal.decreases-formulas::unary
decreases-formulas::unary l = 20 * (200 - l.depth) + 8

abbrev pub decreases-formulas::whole : goal.decreases-formulas::whole
decreases-formulas::whole l = 20 * (200 - l.depth) + 13

abbrev pub invariant-formulas::and-members : goal.invariant-formulas::and-members
invariant-formulas::and-members l = record {
  leads : LeadsReader l.bytes l.tokens (a_unary l.depth) (under_chain conjunction l.depth []) l.inner (a_unary l.depth) (chain_of conjunction l.depth l.members ∷ []);
  begins : BeginsAt l.at l.members;
  shorter : length l.inner < length l.tokens;
}

abbrev pub decreases-formulas::and-members : goal.decreases-formulas::and-members
decreases-formulas::and-members l = length l.inner

abbrev pub invariant-formulas::or-members : goal.invariant-formulas::or-members
invariant-formulas::or-members l = record {
  leads : LeadsReader l.bytes l.tokens (a_unary l.depth) (under_chain disjunction l.depth []) l.inner (a_unary l.depth) (chain_of conjunction l.depth [] ∷ chain_of disjunction l.depth l.members ∷ []);
  begins : BeginsAt l.at l.members;
  shorter : length l.inner < length l.tokens;
}

abbrev pub decreases-formulas::or-members : goal.decreases-formulas::or-members
decreases-formulas::or-members l = length l.inner

abbrev pub invariant-terms::sum-terms : goal.invariant-terms::sum-terms
invariant-terms::sum-terms l = record {
  leads : LeadsReader l.bytes l.tokens (a_minus l.depth) (under_sum l.depth []) l.inner (a_minus l.depth) (under_product l.depth (sum_of l.depth (added false l.first ∷ l.later) l.minus ∷ []));
  shorter : length l.inner < length l.tokens;
}

abbrev pub decreases-terms::sum-terms : goal.decreases-terms::sum-terms
decreases-terms::sum-terms l = length l.inner

abbrev pub invariant-terms::arguments-arguments : goal.invariant-terms::arguments-arguments
invariant-terms::arguments-arguments l = record {
  leads : LeadsReader l.bytes l.tokens (a_unary l.depth) (under_right equivalence l.depth (arguments_of l.name l.depth [] ∷ [])) l.inner (a_unary l.depth) (under_right equivalence l.depth (arguments_of l.name l.depth l.list ∷ []));
  shorter : length l.inner ≤ length l.tokens;
}

abbrev pub decreases-terms::arguments-arguments : goal.decreases-terms::arguments-arguments
decreases-terms::arguments-arguments l = length l.inner
