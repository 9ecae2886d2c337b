-- Plain terms, the members of sums, and a measure.
use Rattle.std.specs.Prelude.{ℕ, ◌+◌, ℤ, pos, negsuc, Bool, true, false, ◌&&◌}
use Rattle.linear_term.specs.Range.{InRange}
use Rattle.form_typed.specs.Formula.{Expression, Expressions, number, name, minus, total, product, no_expression, and_expression}

abbrev mutual
  -- a term without calls, conditions, absolute values, minima and maxima
  pub is_plain : Expression → Bool
  is_plain (number v) = true
  is_plain (name x) = true
  is_plain (minus t) = is_plain t
  is_plain (total ts) = are_plain ts
  is_plain (product s t) = is_plain s && is_plain t
  is_plain _ = false

  pub are_plain : Expressions → Bool
  are_plain no_expression = true
  are_plain (and_expression t ts) = is_plain t && are_plain ts

-- the factor of a member of a sum
abbrev pub factor_of : Expression → ℤ
factor_of (minus t) = negsuc 0
factor_of _ = pos 1

abbrev pub without_minus : Expression → Expression
without_minus (minus t) = t
without_minus t = t

abbrev mutual
  -- the numbers of a plain term are coefficients
  pub IsPlainRanged : Expression → Type 0
  IsPlainRanged (number v) = InRange v
  IsPlainRanged (minus t) = IsPlainRanged t
  IsPlainRanged (total ts) = ArePlainRanged ts
  IsPlainRanged (product s t) = IsPlainRanged s × IsPlainRanged t
  IsPlainRanged _ = Unit {0}

  pub ArePlainRanged : Expressions → Type 0
  ArePlainRanged no_expression = Unit {0}
  ArePlainRanged (and_expression t ts) = IsPlainRanged t × ArePlainRanged ts

abbrev mutual
  -- how much of a plain term is left
  pub weight_of : Expression → ℕ
  weight_of (minus t) = weight_of t + 4
  weight_of (total ts) = weights_of ts + 4
  weight_of (product s t) = weight_of s + weight_of t + 4
  weight_of _ = 2

  pub weights_of : Expressions → ℕ
  weights_of no_expression = 0
  weights_of (and_expression t ts) = weight_of t + weights_of ts + 4
