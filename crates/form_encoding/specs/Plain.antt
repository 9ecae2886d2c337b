-- Terms without calls, conditions, absolute values, minima and maxima: they are linear terms, computed from the inside.
use Rattle.std.specs.Prelude.{ℕ, pos, negsuc, List}
use Rattle.linear_term.specs.Linear as linear
use Rattle.linear_term.specs.Linear.{Linear}
use Rattle.form_typed.specs.Formula.{Expression, Expressions, number, name, minus, total, product, no_expression, and_expression}
use Rattle.base_budget.specs.Trace.{Traced, just, next, combining}
use Rattle.pri_typing.specs.WellFormed.{is_numeric}
use Rattle.form_encoding.specs.Encoding.{named, multiple, product_of}

abbrev mutual
  pub IsPlain : Expression → Type 0
  IsPlain (number v) = Unit {0}
  IsPlain (name x) = Unit {0}
  IsPlain (minus t) = IsPlain t
  IsPlain (total ts) = ArePlain ts
  IsPlain (product s t) = IsPlain s × IsPlain t
  IsPlain _ = ⊥

  pub ArePlain : Expressions → Type 0
  ArePlain no_expression = Unit {0}
  ArePlain (and_expression t ts) = IsPlain t × ArePlain ts

abbrev mutual
  -- the linear term that a plain term is
  pub linear_of : List ℕ → Expression → Traced Linear
  linear_of at (number v) = just (linear.number v)
  linear_of at (name x) = just (named at x)
  linear_of at (minus t) = next (linear_of at t) (λ a. multiple (negsuc 0) a)
  linear_of at (total ts) = linear_sum at ts
  linear_of at (product s t) = next (linear_of at s) (λ a. next (linear_of at t) (λ b. product_of (is_numeric s) a b))
  linear_of at _ = just (linear.number (pos 0))

  pub linear_sum : List ℕ → Expressions → Traced Linear
  linear_sum at no_expression = just (linear.number (pos 0))
  linear_sum at (and_expression t ts) = next (linear_of at t) (λ a. linear_more at ts a)

  pub linear_more : List ℕ → Expressions → Linear → Traced Linear
  linear_more at no_expression s = just s
  linear_more at (and_expression (minus t) ts) s = next (linear_of at t) (λ a. next (combining (pos 1) s (negsuc 0) a) (λ z. linear_more at ts z))
  linear_more at (and_expression t ts) s = next (linear_of at t) (λ a. next (combining (pos 1) s (pos 1) a) (λ z. linear_more at ts z))
