-- The size of a formula within the limits of a script, as its extent.
use Rattle.form_typed.specs.Formula.{Formula, Formulas, Expression, Expressions, constant, compares, applies, negation, every, some, implies, iff, for_all, for_some, part, no_formula, and_formula, number, name, call, minus, total, product, choice, absolute, lesser, greater, no_expression, and_expression}
use Rattle.smt_sizes.specs.declared.size.Size.{Size}
use Rattle.smt_sizes.specs.Size.{nothing, one, beside, above}

abbrev mutual
  -- each formula and each term is one node and opens one level
  pub size : Formula → Size
  size (constant b) = one
  size (compares r s t) = above (beside (term_size s) (term_size t))
  size (applies p ts) = above (term_sizes ts)
  size (negation f) = above (size f)
  size (every fs) = above (all_sizes fs)
  size (some fs) = above (all_sizes fs)
  size (implies f g) = above (beside (size f) (size g))
  size (iff f g) = above (beside (size f) (size g))
  size (for_all s f) = above (size f)
  size (for_some s f) = above (size f)
  size (part k f) = above (size f)

  pub all_sizes : Formulas → Size
  all_sizes no_formula = nothing
  all_sizes (and_formula f fs) = beside (size f) (all_sizes fs)

  pub term_size : Expression → Size
  term_size (number v) = one
  term_size (name x) = one
  term_size (call f ts) = above (term_sizes ts)
  term_size (minus t) = above (term_size t)
  term_size (total ts) = above (term_sizes ts)
  term_size (product s t) = above (beside (term_size s) (term_size t))
  term_size (choice f s t) = above (beside (size f) (beside (term_size s) (term_size t)))
  term_size (absolute t) = above (term_size t)
  term_size (lesser s t) = above (beside (term_size s) (term_size t))
  term_size (greater s t) = above (beside (term_size s) (term_size t))

  pub term_sizes : Expressions → Size
  term_sizes no_expression = nothing
  term_sizes (and_expression t ts) = beside (term_size t) (term_sizes ts)
