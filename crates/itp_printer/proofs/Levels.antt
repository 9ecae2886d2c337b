-- As many quantifiers stand around a quantifier as are nested in the formula, at most.
use Rattle.std.proofs.Common.{ℕ, suc, ◌≤◌, ◌+◌, arith}
use Rattle.form_typed.specs.Formula.{Formula, Formulas, Expression, Expressions, constant, compares, applies, negation, every, some, implies, iff, for_all, for_some, part, no_formula, and_formula, number, name, call, minus, total, product, choice, absolute, lesser, greater, no_expression, and_expression}
use Rattle.pri_typing.specs.Everywhere.{Everywhere, AllEverywhere, TermEverywhere, TermsEverywhere}
use Rattle.pri_typing.specs.WellFormed.{of_formulas}
use Rattle.itp_printer.specs.Numbers.{IsAbove, nesting, all_nesting, term_nesting, terms_nesting}

mutual
  pub above : (k d : ℕ) (f : Formula) → d + nesting f ≤ k → Everywhere (of_formulas (IsAbove k)) d f
  above k d (constant b) h = tt
  above k d (compares r s t) h = (tt, term_above k d s (omega (arith, h)), term_above k d t (omega (arith, h)))
  above k d (applies p ts) h = (tt, terms_above k d ts h)
  above k d (negation f) h = (tt, above k d f h)
  above k d (every fs) h = (tt, all_above k d fs h)
  above k d (some fs) h = (tt, all_above k d fs h)
  above k d (implies f g) h = (tt, above k d f (omega (arith, h)), above k d g (omega (arith, h)))
  above k d (iff f g) h = (tt, above k d f (omega (arith, h)), above k d g (omega (arith, h)))
  above k d (for_all s f) h = (omega (arith, h), above k (suc d) f (omega (arith, h)))
  above k d (for_some s f) h = (omega (arith, h), above k (suc d) f (omega (arith, h)))
  above k d (part j f) h = (tt, above k d f h)

  all_above : (k d : ℕ) (fs : Formulas) → d + all_nesting fs ≤ k → AllEverywhere (of_formulas (IsAbove k)) d fs
  all_above k d no_formula h = tt
  all_above k d (and_formula f fs) h = (above k d f (omega (arith, h)), all_above k d fs (omega (arith, h)))

  term_above : (k d : ℕ) (t : Expression) → d + term_nesting t ≤ k → TermEverywhere (of_formulas (IsAbove k)) d t
  term_above k d (number v) h = tt
  term_above k d (name x) h = tt
  term_above k d (call f ts) h = (tt, terms_above k d ts h)
  term_above k d (minus t) h = (tt, term_above k d t h)
  term_above k d (total ts) h = (tt, terms_above k d ts h)
  term_above k d (product s t) h = (tt, term_above k d s (omega (arith, h)), term_above k d t (omega (arith, h)))
  term_above k d (choice f s t) h = (tt, above k d f (omega (arith, h)), term_above k d s (omega (arith, h)), term_above k d t (omega (arith, h)))
  term_above k d (absolute t) h = (tt, term_above k d t h)
  term_above k d (lesser s t) h = (tt, term_above k d s (omega (arith, h)), term_above k d t (omega (arith, h)))
  term_above k d (greater s t) h = (tt, term_above k d s (omega (arith, h)), term_above k d t (omega (arith, h)))

  terms_above : (k d : ℕ) (ts : Expressions) → d + terms_nesting ts ≤ k → TermsEverywhere (of_formulas (IsAbove k)) d ts
  terms_above k d no_expression h = tt
  terms_above k d (and_expression t ts) h = (term_above k d t (omega (arith, h)), terms_above k d ts (omega (arith, h)))
