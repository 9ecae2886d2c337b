use Rattle.std.proofs.Common.{◌+◌, ◌*◌, ◌≤◌, drop, map}
use Rattle.form_typed.specs.Formula.{applies, compares, expression, expressions_of, formula, formulas_of}
use Rattle.base_budget.proofs.Charging.{Left}
use Rattle.formula.specs.Tree.{form}
use Rattle.form_encoding.specs.Encoding.{all_encoded}
use Rattle.form_encoding.specs.Extent.{extents}
use Rattle.function_encoding.specs.Instructions.{actions_of}
use Rattle.function_encoding.specs.Ranged.{HaveRangedNumbers}
use Rattle.function_encoding.specs.Room.{HasNamesLeft}
use Rattle.function_encoding.specs.Stops.{test_weight}
use Rattle.function_encoding.specs.Weight.{weight, weights, weight_left}
use Rattle.function_encoding.proofs.Encodings.{rest}
use Rattle.function_encoding.proofs.encoder.+encode.Given as goal

abbrev pub decreases-encoded : goal.decreases-encoded
decreases-encoded l = 2 * weight (formula l.f.now) + 1

abbrev pub decreases-relation : goal.decreases-relation
decreases-relation l = 2 * weight (compares l.r (expression l.s.now) (expression l.t.now))

abbrev pub decreases-predicate : goal.decreases-predicate
decreases-predicate l = 2 * weight (applies l.p (expressions_of l.terms.now))

abbrev pub decreases-connected : goal.decreases-connected
decreases-connected l = 2 * weights (formulas_of l.formulas.now) + 3

abbrev pub decreases-all_encoded : goal.decreases-all_encoded
decreases-all_encoded l = 2 * weights (formulas_of l.formulas.now) + 2

abbrev pub decreases-joined : goal.decreases-joined
decreases-joined l = 2 * weight (formula l.g.now) + 2 * weight (formula l.h.now) + 2

abbrev pub decreases-equivalent : goal.decreases-equivalent
decreases-equivalent l = 2 * weight (formula l.g.now) + 2 * weight (formula l.h.now) + 3

abbrev pub decreases-bound : goal.decreases-bound
decreases-bound l = 2 * weight (formula l.g.now) + 2

abbrev pub decreases-run : goal.decreases-run
decreases-run l = 2 * weight_left (actions_of l.code.now) + 4

abbrev pub decreases-graph : goal.decreases-graph
decreases-graph l = 2 * weight_left (actions_of l.code.now) + 5

abbrev pub decreases-cases : goal.decreases-cases
decreases-cases l = 2 * test_weight l.test.now + 2 * weight_left (actions_of l.code.now) + 6

abbrev pub decreases-case : goal.decreases-case
decreases-case l = 2 * test_weight l.test.now + 2 * weight_left (actions_of l.code.now) + 5

abbrev pub decreases-tested : goal.decreases-tested
decreases-tested l = 2 * test_weight l.test.now + 2

abbrev pub invariant-all_encoded-loop-f : goal.invariant-all_encoded-loop-f
invariant-all_encoded-loop-f l = Left (rest l.at l.n l.plus (map form l.out) (formulas_of (drop l.f-index l.formulas))) (all_encoded l.at l.n l.plus (formulas_of l.formulas))
    × HaveRangedNumbers (formulas_of (drop l.f-index l.formulas)) × HasNamesLeft l.n (extents (formulas_of (drop l.f-index l.formulas)))
    × (weights (formulas_of (drop l.f-index l.formulas)) ≤ weights (formulas_of l.formulas))
