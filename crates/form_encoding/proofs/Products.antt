-- Each product in a formula has a side of numbers alone.
use Rattle.std.proofs.Common.{◌≡◌, ℕ, suc, true, ◌||◌}
use Rattle.form_typed.specs.Formula.{Formula, Formulas, Expression, Expressions, constant, compares, applies, negation, every, some, implies, iff, for_all, for_some, part, no_formula, and_formula, number, name, call, minus, total, product, choice, absolute, lesser, greater, no_expression, and_expression}
use Rattle.pri_typing.specs.Everywhere.{Everywhere, AllEverywhere, TermEverywhere, TermsEverywhere}
use Rattle.pri_typing.specs.WellFormed.{is_numeric, of_terms, IsLinear}

abbrev mutual
  -- each product in the formula has a side of numbers alone
  pub IsFormulaLinear : Formula → Type 0
  IsFormulaLinear (constant b) = Unit {0}
  IsFormulaLinear (compares r s t) = IsTermLinear s × IsTermLinear t
  IsFormulaLinear (applies p ts) = AreTermsLinear ts
  IsFormulaLinear (negation f) = IsFormulaLinear f
  IsFormulaLinear (every fs) = AreFormulasLinear fs
  IsFormulaLinear (some fs) = AreFormulasLinear fs
  IsFormulaLinear (implies f g) = IsFormulaLinear f × IsFormulaLinear g
  IsFormulaLinear (iff f g) = IsFormulaLinear f × IsFormulaLinear g
  IsFormulaLinear (for_all s f) = IsFormulaLinear f
  IsFormulaLinear (for_some s f) = IsFormulaLinear f
  IsFormulaLinear (part k f) = IsFormulaLinear f

  pub AreFormulasLinear : Formulas → Type 0
  AreFormulasLinear no_formula = Unit {0}
  AreFormulasLinear (and_formula f fs) = IsFormulaLinear f × AreFormulasLinear fs

  pub IsTermLinear : Expression → Type 0
  IsTermLinear (number v) = Unit {0}
  IsTermLinear (name x) = Unit {0}
  IsTermLinear (call f ts) = AreTermsLinear ts
  IsTermLinear (minus t) = IsTermLinear t
  IsTermLinear (total ts) = AreTermsLinear ts
  IsTermLinear (product s t) = ((is_numeric s || is_numeric t) ≡ true) × IsTermLinear s × IsTermLinear t
  IsTermLinear (choice f s t) = IsFormulaLinear f × IsTermLinear s × IsTermLinear t
  IsTermLinear (absolute t) = IsTermLinear t
  IsTermLinear (lesser s t) = IsTermLinear s × IsTermLinear t
  IsTermLinear (greater s t) = IsTermLinear s × IsTermLinear t

  pub AreTermsLinear : Expressions → Type 0
  AreTermsLinear no_expression = Unit {0}
  AreTermsLinear (and_expression t ts) = IsTermLinear t × AreTermsLinear ts

mutual
  pub products_of : (n : ℕ) (f : Formula) → Everywhere (of_terms IsLinear) n f → IsFormulaLinear f
  products_of n (constant b) h = tt
  products_of n (compares r s t) h = (term_products n s h.1, term_products n t h.2)
  products_of n (applies p ts) h = terms_products n ts h.1
  products_of n (negation f) h = products_of n f h.1
  products_of n (every fs) h = all_products n fs h.1
  products_of n (some fs) h = all_products n fs h.1
  products_of n (implies f g) h = (products_of n f h.1, products_of n g h.2)
  products_of n (iff f g) h = (products_of n f h.1, products_of n g h.2)
  products_of n (for_all s f) h = products_of (suc n) f h.1
  products_of n (for_some s f) h = products_of (suc n) f h.1
  products_of n (part k f) h = products_of n f h.1

  all_products : (n : ℕ) (fs : Formulas) → AllEverywhere (of_terms IsLinear) n fs → AreFormulasLinear fs
  all_products n no_formula h = tt
  all_products n (and_formula f fs) h = (products_of n f h.0, all_products n fs h.1)

  term_products : (n : ℕ) (t : Expression) → TermEverywhere (of_terms IsLinear) n t → IsTermLinear t
  term_products n (number v) h = tt
  term_products n (name x) h = tt
  term_products n (call f ts) h = terms_products n ts h.1
  term_products n (minus t) h = term_products n t h.1
  term_products n (total ts) h = terms_products n ts h.1
  term_products n (product s t) h = (h.0, term_products n s h.1, term_products n t h.2)
  term_products n (choice f s t) h = (products_of n f h.1, term_products n s h.2, term_products n t h.3)
  term_products n (absolute t) h = term_products n t h.1
  term_products n (lesser s t) h = (term_products n s h.1, term_products n t h.2)
  term_products n (greater s t) h = (term_products n s h.1, term_products n t h.2)

  terms_products : (n : ℕ) (ts : Expressions) → TermsEverywhere (of_terms IsLinear) n ts → AreTermsLinear ts
  terms_products n no_expression h = tt
  terms_products n (and_expression t ts) h = (term_products n t h.0, terms_products n ts h.1)
