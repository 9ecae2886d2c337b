-- The weights of formulas and terms: each formula and each term is one node over its parts.
use Rattle.std.specs.Prelude.{Bool, true, false}
use Rattle.form_typed.specs.Formula.{Formula, Formulas, Expression, Expressions, constant, compares, applies, negation, every, some, implies, iff, for_all, for_some, part, no_formula, and_formula, number, name, call, minus, total, product, choice, absolute, lesser, greater, no_expression, and_expression}
use Rattle.smt_terms.specs.Translation.{Said, a_formula, a_term}
use Rattle.smt_sizes.specs.declared.weight.Weight.{Weight}
use Rattle.smt_sizes.specs.Weight.{nothing, node, plus, over}

abbrev mutual
  pub weight : Formula → Weight
  weight (constant b) = node
  weight (compares r s t) = over (plus (term_weight s) (term_weight t))
  weight (applies p ts) = over (term_weights ts)
  weight (negation f) = over (weight f)
  weight (every fs) = over (all_weights fs)
  weight (some fs) = over (all_weights fs)
  weight (implies f g) = over (plus (weight f) (weight g))
  weight (iff f g) = over (plus (weight f) (weight g))
  weight (for_all s f) = over (weight f)
  weight (for_some s f) = over (weight f)
  weight (part k f) = over (weight f)

  pub all_weights : Formulas → Weight
  all_weights no_formula = nothing
  all_weights (and_formula f fs) = plus (weight f) (all_weights fs)

  pub term_weight : Expression → Weight
  term_weight (number v) = node
  term_weight (name x) = node
  term_weight (call f ts) = over (term_weights ts)
  term_weight (minus t) = over (term_weight t)
  term_weight (total ts) = over (term_weights ts)
  term_weight (product s t) = over (plus (term_weight s) (term_weight t))
  term_weight (choice f s t) = over (plus (weight f) (plus (term_weight s) (term_weight t)))
  term_weight (absolute t) = over (term_weight t)
  term_weight (lesser s t) = over (plus (term_weight s) (term_weight t))
  term_weight (greater s t) = over (plus (term_weight s) (term_weight t))

  pub term_weights : Expressions → Weight
  term_weights no_expression = nothing
  term_weights (and_expression t ts) = plus (term_weight t) (term_weights ts)

-- a formula or a term, by its weight
pub record Weighed : Type 0 where
  pub is_formula : Bool
  pub weight : Weight

-- what a term becomes, by its weight
abbrev pub weighed : Said → Weighed
weighed (a_formula f) = record { is_formula = true; weight = weight f }
weighed (a_term t) = record { is_formula = false; weight = term_weight t }
