-- Formulas and terms all of whose numbers, also those in types, are coefficients.
use Rattle.linear_term.specs.Range.{InRange}
use Rattle.form_typed.specs.Sorts.{IsSortRanged}
use Rattle.form_typed.specs.Formula.{Formula, Formulas, Expression, Expressions, constant, compares, applies, negation, every, some, implies, iff, for_all, for_some, part, no_formula, and_formula, number, name, call, minus, total, product, choice, absolute, lesser, greater, no_expression, and_expression}

abbrev mutual
  pub HasRangedNumbers : Formula → Type 0
  HasRangedNumbers (constant b) = Unit {0}
  HasRangedNumbers (compares r s t) = IsTermRanged s × IsTermRanged t
  HasRangedNumbers (applies p ts) = AreTermsRanged ts
  HasRangedNumbers (negation f) = HasRangedNumbers f
  HasRangedNumbers (every fs) = HaveRangedNumbers fs
  HasRangedNumbers (some fs) = HaveRangedNumbers fs
  HasRangedNumbers (implies f g) = HasRangedNumbers f × HasRangedNumbers g
  HasRangedNumbers (iff f g) = HasRangedNumbers f × HasRangedNumbers g
  HasRangedNumbers (for_all s f) = IsSortRanged s × HasRangedNumbers f
  HasRangedNumbers (for_some s f) = IsSortRanged s × HasRangedNumbers f
  HasRangedNumbers (part k f) = HasRangedNumbers f

  pub HaveRangedNumbers : Formulas → Type 0
  HaveRangedNumbers no_formula = Unit {0}
  HaveRangedNumbers (and_formula f fs) = HasRangedNumbers f × HaveRangedNumbers fs

  pub IsTermRanged : Expression → Type 0
  IsTermRanged (number v) = InRange v
  IsTermRanged (name x) = Unit {0}
  IsTermRanged (call f ts) = AreTermsRanged ts
  IsTermRanged (minus t) = IsTermRanged t
  IsTermRanged (total ts) = AreTermsRanged ts
  IsTermRanged (product s t) = IsTermRanged s × IsTermRanged t
  IsTermRanged (choice f s t) = HasRangedNumbers f × IsTermRanged s × IsTermRanged t
  IsTermRanged (absolute t) = IsTermRanged t
  IsTermRanged (lesser s t) = IsTermRanged s × IsTermRanged t
  IsTermRanged (greater s t) = IsTermRanged s × IsTermRanged t

  pub AreTermsRanged : Expressions → Type 0
  AreTermsRanged no_expression = Unit {0}
  AreTermsRanged (and_expression t ts) = IsTermRanged t × AreTermsRanged ts
