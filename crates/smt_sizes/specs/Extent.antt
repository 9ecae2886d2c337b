-- How many nodes and levels a formula has.
use Rattle.std.specs.Prelude.{ℕ, ◌+◌, ◌<◌, ◌⊎◌, max}
use Rattle.base_limits.specs.Limits.{most_levels, most_nodes}
use Rattle.form_typed.specs.Formula.{Formula, Formulas, Expression, Expressions, constant, compares, applies, negation, every, some, implies, iff, for_all, for_some, part, no_formula, and_formula, number, name, call, minus, total, product, choice, absolute, lesser, greater, no_expression, and_expression}

-- nodes and levels
pub record ScriptExtent : Type 0 where
  pub nodes : ℕ
  pub levels : ℕ

abbrev pub leaf : ScriptExtent
leaf = record { nodes = 1; levels = 1 }

abbrev pub nothing : ScriptExtent
nothing = record { nodes = 0; levels = 0 }

abbrev pub beside : ScriptExtent → ScriptExtent → ScriptExtent
beside a b = record { nodes = a.nodes + b.nodes; levels = max a.levels b.levels }

-- a node over others
abbrev pub above : ScriptExtent → ScriptExtent
above a = record { nodes = a.nodes + 1; levels = a.levels + 1 }

abbrev mutual
  -- each formula and each term is one node and opens one level
  pub extent : Formula → ScriptExtent
  extent (constant b) = leaf
  extent (compares r s t) = above (beside (term_extent s) (term_extent t))
  extent (applies p ts) = above (terms_extent ts)
  extent (negation f) = above (extent f)
  extent (every fs) = above (all_extent fs)
  extent (some fs) = above (all_extent fs)
  extent (implies f g) = above (beside (extent f) (extent g))
  extent (iff f g) = above (beside (extent f) (extent g))
  extent (for_all s f) = above (extent f)
  extent (for_some s f) = above (extent f)
  extent (part k f) = above (extent f)

  pub all_extent : Formulas → ScriptExtent
  all_extent no_formula = nothing
  all_extent (and_formula f fs) = beside (extent f) (all_extent fs)

  pub term_extent : Expression → ScriptExtent
  term_extent (number v) = leaf
  term_extent (name x) = leaf
  term_extent (call f ts) = above (terms_extent ts)
  term_extent (minus t) = above (term_extent t)
  term_extent (total ts) = above (terms_extent ts)
  term_extent (product s t) = above (beside (term_extent s) (term_extent t))
  term_extent (choice f s t) = above (beside (extent f) (beside (term_extent s) (term_extent t)))
  term_extent (absolute t) = above (term_extent t)
  term_extent (lesser s t) = above (beside (term_extent s) (term_extent t))
  term_extent (greater s t) = above (beside (term_extent s) (term_extent t))

  pub terms_extent : Expressions → ScriptExtent
  terms_extent no_expression = nothing
  terms_extent (and_expression t ts) = beside (term_extent t) (terms_extent ts)

-- more nodes or more levels than a script may have
abbrev pub IsTooLarge : ScriptExtent → Type 0
IsTooLarge a = (most_nodes < a.nodes) ⊎ (most_levels < a.levels)
