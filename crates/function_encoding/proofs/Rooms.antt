-- What the actions of a term keep: how large the result is, numbers in the range, and how much work is left.
use Rattle.std.proofs.Common.{◌≡◌, ◌+◌, ◌≤◌, true, false, List, ◌∷◌, refl, ap, ◌∙◌, arith}
use Rattle.form_typed.specs.declared.typed.Relation.TheVariants.{Leq, Geq}
use Rattle.form_typed.specs.Formula.{Expression, Expressions, number, name, call, minus, total, product, choice, absolute, lesser, greater, no_expression, and_expression}
use Rattle.pri_typing.specs.WellFormed.{is_numeric, size}
use Rattle.form_encoding.specs.Extent.{extent_with, extents_with}
use Rattle.function_encoding.specs.Actions.{Action, apply, negate, multiply, add, choose, take_absolute, take_extreme, compiled, compiled_all, compiled_sum, compiled_more}
use Rattle.function_encoding.specs.Ranged.{IsTermRanged, AreTermsRanged}
use Rattle.function_encoding.specs.Room.{extent_left, AreActionsRanged}
use Rattle.function_encoding.specs.Weight.{weight_of, weights_of, weight_left}

mutual
  pub compiled_extent : (t : Expression) (c : List Action) → extent_left (compiled t c) ≡ extent_with t (extent_left c)
  compiled_extent (number v) c = refl
  compiled_extent (name x) c = refl
  compiled_extent (call f ts) c = all_extent ts (apply f (size ts) ∷ c)
  compiled_extent (minus t) c = compiled_extent t (negate ∷ c)
  compiled_extent (total ts) c = sum_extent ts c
  compiled_extent (product s t) c = compiled_extent s (compiled t (multiply (is_numeric s) ∷ c)) ∙ ap (extent_with s) (compiled_extent t (multiply (is_numeric s) ∷ c))
  compiled_extent (choice f s t) c = compiled_extent s (compiled t (choose f ∷ c)) ∙ ap (extent_with s) (compiled_extent t (choose f ∷ c))
  compiled_extent (absolute t) c = compiled_extent t (take_absolute ∷ c)
  compiled_extent (lesser s t) c = compiled_extent s (compiled t (take_extreme Leq ∷ c)) ∙ ap (extent_with s) (compiled_extent t (take_extreme Leq ∷ c))
  compiled_extent (greater s t) c = compiled_extent s (compiled t (take_extreme Geq ∷ c)) ∙ ap (extent_with s) (compiled_extent t (take_extreme Geq ∷ c))

  pub all_extent : (ts : Expressions) (c : List Action) → extent_left (compiled_all ts c) ≡ extents_with ts (extent_left c)
  all_extent no_expression c = refl
  all_extent (and_expression t ts) c = compiled_extent t (compiled_all ts c) ∙ ap (extent_with t) (all_extent ts c)

  sum_extent : (ts : Expressions) (c : List Action) → extent_left (compiled_sum ts c) ≡ extents_with ts (extent_left c)
  sum_extent no_expression c = refl
  sum_extent (and_expression t ts) c = compiled_extent t (compiled_more ts c) ∙ ap (extent_with t) (more_extent ts c)

  more_extent : (ts : Expressions) (c : List Action) → extent_left (compiled_more ts c) ≡ extents_with ts (extent_left c)
  more_extent no_expression c = refl
  more_extent (and_expression (minus t) ts) c = compiled_extent t (add true ∷ compiled_more ts c) ∙ ap (extent_with t) (more_extent ts c)
  more_extent (and_expression t ts) c = compiled_extent t (add false ∷ compiled_more ts c) ∙ ap (extent_with t) (more_extent ts c)

mutual
  pub compiled_ranged : (t : Expression) (c : List Action) → IsTermRanged t → AreActionsRanged c → AreActionsRanged (compiled t c)
  compiled_ranged (number v) c r h = (r, h)
  compiled_ranged (name x) c r h = h
  compiled_ranged (call f ts) c r h = all_ranged ts (apply f (size ts) ∷ c) r h
  compiled_ranged (minus t) c r h = compiled_ranged t (negate ∷ c) r h
  compiled_ranged (total ts) c r h = sum_ranged ts c r h
  compiled_ranged (product s t) c r h = compiled_ranged s (compiled t (multiply (is_numeric s) ∷ c)) (r.0) (compiled_ranged t (multiply (is_numeric s) ∷ c) (r.1) h)
  compiled_ranged (choice f s t) c r h = compiled_ranged s (compiled t (choose f ∷ c)) (r.1) (compiled_ranged t (choose f ∷ c) (r.2) (r.0, h))
  compiled_ranged (absolute t) c r h = compiled_ranged t (take_absolute ∷ c) r h
  compiled_ranged (lesser s t) c r h = compiled_ranged s (compiled t (take_extreme Leq ∷ c)) (r.0) (compiled_ranged t (take_extreme Leq ∷ c) (r.1) h)
  compiled_ranged (greater s t) c r h = compiled_ranged s (compiled t (take_extreme Geq ∷ c)) (r.0) (compiled_ranged t (take_extreme Geq ∷ c) (r.1) h)

  pub all_ranged : (ts : Expressions) (c : List Action) → AreTermsRanged ts → AreActionsRanged c → AreActionsRanged (compiled_all ts c)
  all_ranged no_expression c r h = h
  all_ranged (and_expression t ts) c r h = compiled_ranged t (compiled_all ts c) (r.0) (all_ranged ts c (r.1) h)

  sum_ranged : (ts : Expressions) (c : List Action) → AreTermsRanged ts → AreActionsRanged c → AreActionsRanged (compiled_sum ts c)
  sum_ranged no_expression c r h = (omega arith, h)
  sum_ranged (and_expression t ts) c r h = compiled_ranged t (compiled_more ts c) (r.0) (more_ranged ts c (r.1) h)

  more_ranged : (ts : Expressions) (c : List Action) → AreTermsRanged ts → AreActionsRanged c → AreActionsRanged (compiled_more ts c)
  more_ranged no_expression c r h = h
  more_ranged (and_expression (minus t) ts) c r h = compiled_ranged t (add true ∷ compiled_more ts c) (r.0) (more_ranged ts c (r.1) h)
  more_ranged (and_expression t ts) c r h = compiled_ranged t (add false ∷ compiled_more ts c) (r.0) (more_ranged ts c (r.1) h)

mutual
  pub compiled_weight : (t : Expression) (c : List Action) → weight_left (compiled t c) ≤ weight_of t + weight_left c
  compiled_weight (number v) c = omega arith
  compiled_weight (name x) c = omega arith
  compiled_weight (call f ts) c = omega (arith, all_weight ts (apply f (size ts) ∷ c))
  compiled_weight (minus t) c = omega (arith, compiled_weight t (negate ∷ c))
  compiled_weight (total ts) c = sum_weight ts c
  compiled_weight (product s t) c = omega (arith, compiled_weight s (compiled t (multiply (is_numeric s) ∷ c)), compiled_weight t (multiply (is_numeric s) ∷ c))
  compiled_weight (choice f s t) c = omega (arith, compiled_weight s (compiled t (choose f ∷ c)), compiled_weight t (choose f ∷ c))
  compiled_weight (absolute t) c = omega (arith, compiled_weight t (take_absolute ∷ c))
  compiled_weight (lesser s t) c = omega (arith, compiled_weight s (compiled t (take_extreme Leq ∷ c)), compiled_weight t (take_extreme Leq ∷ c))
  compiled_weight (greater s t) c = omega (arith, compiled_weight s (compiled t (take_extreme Geq ∷ c)), compiled_weight t (take_extreme Geq ∷ c))

  pub all_weight : (ts : Expressions) (c : List Action) → weight_left (compiled_all ts c) ≤ weights_of ts + weight_left c
  all_weight no_expression c = omega arith
  all_weight (and_expression t ts) c = omega (arith, compiled_weight t (compiled_all ts c), all_weight ts c)

  sum_weight : (ts : Expressions) (c : List Action) → weight_left (compiled_sum ts c) ≤ weights_of ts + 4 + weight_left c
  sum_weight no_expression c = omega arith
  sum_weight (and_expression t ts) c = omega (arith, compiled_weight t (compiled_more ts c), more_weight ts c)

  more_weight : (ts : Expressions) (c : List Action) → weight_left (compiled_more ts c) ≤ weights_of ts + weight_left c
  more_weight no_expression c = omega arith
  more_weight (and_expression (minus t) ts) c = omega (arith, compiled_weight t (add true ∷ compiled_more ts c), more_weight ts c)
  more_weight (and_expression t ts) c = omega (arith, compiled_weight t (add false ∷ compiled_more ts c), more_weight ts c)
