-- The numbers of the bound variables of a formula, and how deep its quantifiers are nested.
use Rattle.std.specs.Prelude.{ℕ, ◌≡◌, ◌<◌, ◌+◌, List, length, max, slice_index_or}
use Rattle.form_typed.specs.Formula.{Formula, Formulas, Expression, Expressions, constant, compares, applies, negation, every, some, implies, iff, for_all, for_some, part, no_formula, and_formula, number, name, call, minus, total, product, choice, absolute, lesser, greater, no_expression, and_expression}
use Rattle.pri_typing.specs.declared.problem.Problem.{Problem}
use Rattle.itp_printer.specs.Variables.{variable_number}

-- the i-th of the numbers is that of the variable with i quantifiers around its own
abbrev pub AreNumbers : Problem → List ℕ → Type 0
AreNumbers p ns = (i : ℕ) → i < length ns → slice_index_or ns i 0 ≡ variable_number p i

-- fewer than k quantifiers stand around a quantifier
abbrev pub IsAbove : ℕ → ℕ → Formula → Type 0
IsAbove k n (for_all s f) = n < k
IsAbove k n (for_some s f) = n < k
IsAbove k n _ = Unit {0}

abbrev mutual
  -- the most quantifiers of a formula that stand one inside the other
  pub nesting : Formula → ℕ
  nesting (constant b) = 0
  nesting (compares r s t) = max (term_nesting s) (term_nesting t)
  nesting (applies p ts) = terms_nesting ts
  nesting (negation f) = nesting f
  nesting (every fs) = all_nesting fs
  nesting (some fs) = all_nesting fs
  nesting (implies f g) = max (nesting f) (nesting g)
  nesting (iff f g) = max (nesting f) (nesting g)
  nesting (for_all s f) = nesting f + 1
  nesting (for_some s f) = nesting f + 1
  nesting (part k f) = nesting f

  -- the most of several formulas
  pub all_nesting : Formulas → ℕ
  all_nesting no_formula = 0
  all_nesting (and_formula f fs) = max (nesting f) (all_nesting fs)

  -- the most of a term
  pub term_nesting : Expression → ℕ
  term_nesting (number v) = 0
  term_nesting (name x) = 0
  term_nesting (call f ts) = terms_nesting ts
  term_nesting (minus t) = term_nesting t
  term_nesting (total ts) = terms_nesting ts
  term_nesting (product s t) = max (term_nesting s) (term_nesting t)
  term_nesting (choice f s t) = max (nesting f) (max (term_nesting s) (term_nesting t))
  term_nesting (absolute t) = term_nesting t
  term_nesting (lesser s t) = max (term_nesting s) (term_nesting t)
  term_nesting (greater s t) = max (term_nesting s) (term_nesting t)

  -- the most of several terms
  pub terms_nesting : Expressions → ℕ
  terms_nesting no_expression = 0
  terms_nesting (and_expression t ts) = max (term_nesting t) (terms_nesting ts)
