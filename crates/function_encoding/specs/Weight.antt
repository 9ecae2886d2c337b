-- How much of a formula, a term or a list of actions is left: a measure of recursions.
use Rattle.std.specs.Prelude.{ℕ, ◌+◌, List, [], ◌∷◌}
use Rattle.form_typed.specs.Formula.{Formula, Formulas, Expression, Expressions, constant, compares, applies, negation, every, some, implies, iff, for_all, for_some, part, no_formula, and_formula, number, name, call, minus, total, product, choice, absolute, lesser, greater, no_expression, and_expression}
use Rattle.function_encoding.specs.Actions.{Action, choose}

abbrev mutual
  pub weight : Formula → ℕ
  weight (constant b) = 1
  weight (compares r s t) = weight_of s + weight_of t + 5
  weight (applies p ts) = weights_of ts + 5
  weight (negation f) = weight f + 4
  weight (every fs) = weights fs + 4
  weight (some fs) = weights fs + 4
  weight (implies f g) = weight f + weight g + 4
  weight (iff f g) = weight f + weight g + 4
  weight (for_all s f) = weight f + 4
  weight (for_some s f) = weight f + 4
  weight (part k f) = weight f + 4

  pub weights : Formulas → ℕ
  weights no_formula = 0
  weights (and_formula f fs) = weight f + weights fs

  pub weight_of : Expression → ℕ
  weight_of (number v) = 2
  weight_of (name x) = 2
  weight_of (call f ts) = weights_of ts + 4
  weight_of (minus t) = weight_of t + 4
  weight_of (total ts) = weights_of ts + 4
  weight_of (product s t) = weight_of s + weight_of t + 4
  weight_of (choice f s t) = weight f + weight_of s + weight_of t + 4
  weight_of (absolute t) = weight_of t + 4
  weight_of (lesser s t) = weight_of s + weight_of t + 4
  weight_of (greater s t) = weight_of s + weight_of t + 4

  pub weights_of : Expressions → ℕ
  weights_of no_expression = 0
  weights_of (and_expression t ts) = weight_of t + weights_of ts + 4

abbrev pub weight_left : List Action → ℕ
weight_left [] = 0
weight_left (choose f ∷ c) = weight f + weight_left c + 2
weight_left (a ∷ c) = weight_left c + 2
