-- How large the encoding of a formula is, without the encoding: it does not depend on the sign, nor on the names and
-- numbers in the formula. Numbers from 2^64 - 1 on count as 2^64 - 1.
use Rattle.std.specs.Prelude.{ℕ, zero, suc, ◌+◌, max, length}
use Rattle.form_typed.specs.Formula.{Formula, Formulas, Expression, Expressions, constant, compares, applies, negation, every, some, implies, iff, for_all, for_some, part, no_formula, and_formula, number, name, call, minus, total, product, choice, absolute, lesser, greater, no_expression, and_expression}
use Rattle.base_budget.specs.Trace.{capped}
use Rattle.form_encoding.specs.Encoding.{bounds}
use Rattle.formula.specs.Form.{Form, Forms}
use Rattle.formula.specs.Sizes.{size, sizes, depth, depths}

-- nodes and levels
pub record Extent : Type 0 where
  pub nodes : ℕ
  pub levels : ℕ

-- of an atom, and of no formula at all
abbrev pub leaf : Extent
leaf = record { nodes = 1; levels = 1 }

abbrev pub nothing : Extent
nothing = record { nodes = 0; levels = 0 }

-- a formula beside others
abbrev pub beside : Extent → Extent → Extent
beside a b = record { nodes = capped (a.nodes + b.nodes); levels = max a.levels b.levels }

-- a node above its members
abbrev pub above : Extent → Extent
above a = record { nodes = capped (1 + a.nodes); levels = capped (1 + a.levels) }

-- a node above two members
abbrev pub above_two : Extent → Extent → Extent
above_two a b = above (beside a (beside b nothing))

-- a condition's two cases, with the rest in both
abbrev pub in_both : Extent → Extent → Extent
in_both c rest = above_two (above_two c rest) (above_two c rest)

-- k atoms before others
abbrev pub behind_atoms : ℕ → Extent → Extent
behind_atoms zero e = e
behind_atoms (suc k) e = beside leaf (behind_atoms k e)

-- a formula after k atoms in one connective, where there are any
abbrev pub restricted_extent : ℕ → Extent → Extent
restricted_extent zero e = e
restricted_extent (suc k) e = above (behind_atoms (suc k) (beside e nothing))

abbrev mutual
  -- of the encoding of a formula
  pub extent : Formula → Extent
  extent (constant b) = above nothing
  extent (compares r s t) = extent_with s (extent_with t leaf)
  extent (applies p ts) = extents_with ts leaf
  extent (negation f) = extent f
  extent (every fs) = above (extents fs)
  extent (some fs) = above (extents fs)
  extent (implies f g) = above_two (extent f) (extent g)
  extent (iff f g) = in_both (extent f) (extent g)
  extent (for_all s f) = above (restricted_extent (length (bounds s)) (extent f))
  extent (for_some s f) = above (restricted_extent (length (bounds s)) (extent f))
  extent (part k f) = extent f

  pub extents : Formulas → Extent
  extents no_formula = nothing
  extents (and_formula f fs) = beside (extent f) (extents fs)

  -- of the rest, after a term
  pub extent_with : Expression → Extent → Extent
  extent_with (number v) rest = rest
  extent_with (name x) rest = rest
  extent_with (call f ts) rest = extents_with ts (above (above_two leaf rest))
  extent_with (minus t) rest = extent_with t rest
  extent_with (total ts) rest = extents_with ts rest
  extent_with (product s t) rest = extent_with s (extent_with t rest)
  extent_with (choice f s t) rest = extent_with s (extent_with t (in_both (extent f) rest))
  extent_with (absolute t) rest = extent_with t (in_both leaf rest)
  extent_with (lesser s t) rest = extent_with s (extent_with t (in_both leaf rest))
  extent_with (greater s t) rest = extent_with s (extent_with t (in_both leaf rest))

  pub extents_with : Expressions → Extent → Extent
  extents_with no_expression rest = rest
  extents_with (and_expression t ts) rest = extent_with t (extents_with ts rest)

-- of a formula of the calculus
abbrev pub measured : Form → Extent
measured f = record { nodes = capped (size f); levels = capped (depth f) }

abbrev pub all_measured : Forms → Extent
all_measured fs = record { nodes = capped (sizes fs); levels = capped (depths fs) }
