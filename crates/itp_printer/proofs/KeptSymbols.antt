-- The plain form of a formula has its predicates and functions, in their order.
use Rattle.std.proofs.Common.{◌≡◌, pos, negsuc, true, false, List, ◌∷◌, ◌++◌, refl, sym, ap, ◌∙◌, append-nil}
use Rattle.form_typed.specs.Formula.{Formula, Formulas, Expression, Expressions, formulas, expressions, constant, compares, applies, negation, every, some, implies, iff, for_all, for_some, part, no_formula, and_formula, number, name, call, minus, total, product, choice, absolute, lesser, greater, no_expression, and_expression}
use Rattle.itp_sides.specs.Symbols.{symbols_in, symbols_in_all, symbols_in_term, symbols_in_terms}
use Rattle.itp_printer.specs.Plain.{plain, plain_all, plain_term, plain_terms, joined, summed}

-- two lists after one another
both : {A : Type 0} {a b c d : List A} → a ≡ b → c ≡ d → (a ++ c) ≡ (b ++ d)
both h k = λ i. h i ++ k i

-- one member before others
joined_symbols : (none : Formula) (join : Formulas → Formula) (f : Formula) (fs : Formulas) → ((gs : Formulas) → symbols_in (join gs) ≡ symbols_in_all gs)
    → symbols_in (plain f) ≡ symbols_in f → symbols_in_all (formulas (plain_all fs)) ≡ symbols_in_all fs
    → symbols_in (joined none join (plain_all (and_formula f fs))) ≡ symbols_in_all (and_formula f fs)
joined_symbols none join f no_formula j h k = h ∙ sym (append-nil (symbols_in f))
joined_symbols none join f (and_formula g fs) j h k = j (formulas (plain_all (and_formula f (and_formula g fs)))) ∙ both h k

summed_symbols : (t : Expression) (ts : Expressions) → symbols_in_term (plain_term t) ≡ symbols_in_term t → symbols_in_terms (expressions (plain_terms ts)) ≡ symbols_in_terms ts
    → symbols_in_term (summed (plain_terms (and_expression t ts))) ≡ symbols_in_terms (and_expression t ts)
summed_symbols t no_expression h k = h ∙ sym (append-nil (symbols_in_term t))
summed_symbols t (and_expression u ts) h k = both h k

mutual
  pub symbols_kept : (f : Formula) → symbols_in (plain f) ≡ symbols_in f
  symbols_kept (constant b) = refl
  symbols_kept (compares r s t) = both (term_symbols_kept s) (term_symbols_kept t)
  symbols_kept (applies p ts) = ap (λ z. (true, p) ∷ z) (terms_symbols_kept ts)
  symbols_kept (negation f) = symbols_kept f
  symbols_kept (every fs) = every_symbols_kept fs
  symbols_kept (some fs) = some_symbols_kept fs
  symbols_kept (implies f g) = both (symbols_kept f) (symbols_kept g)
  symbols_kept (iff f g) = both (symbols_kept f) (symbols_kept g)
  symbols_kept (for_all s f) = symbols_kept f
  symbols_kept (for_some s f) = symbols_kept f
  symbols_kept (part k f) = symbols_kept f

  every_symbols_kept : (fs : Formulas) → symbols_in (plain (every fs)) ≡ symbols_in_all fs
  every_symbols_kept no_formula = refl
  every_symbols_kept (and_formula f fs) = joined_symbols (constant true) every f fs (λ gs. refl) (symbols_kept f) (all_symbols_kept fs)

  some_symbols_kept : (fs : Formulas) → symbols_in (plain (some fs)) ≡ symbols_in_all fs
  some_symbols_kept no_formula = refl
  some_symbols_kept (and_formula f fs) = joined_symbols (constant false) some f fs (λ gs. refl) (symbols_kept f) (all_symbols_kept fs)

  all_symbols_kept : (fs : Formulas) → symbols_in_all (formulas (plain_all fs)) ≡ symbols_in_all fs
  all_symbols_kept no_formula = refl
  all_symbols_kept (and_formula f fs) = both (symbols_kept f) (all_symbols_kept fs)

  term_symbols_kept : (t : Expression) → symbols_in_term (plain_term t) ≡ symbols_in_term t
  term_symbols_kept (number (pos n)) = refl
  term_symbols_kept (number (negsuc n)) = refl
  term_symbols_kept (name x) = refl
  term_symbols_kept (call f ts) = ap (λ z. (false, f) ∷ z) (terms_symbols_kept ts)
  term_symbols_kept (minus t) = term_symbols_kept t
  term_symbols_kept (total ts) = total_symbols_kept ts
  term_symbols_kept (product s t) = both (term_symbols_kept s) (term_symbols_kept t)
  term_symbols_kept (choice f s t) = both (symbols_kept f) (both (term_symbols_kept s) (term_symbols_kept t))
  term_symbols_kept (absolute t) = term_symbols_kept t
  term_symbols_kept (lesser s t) = both (term_symbols_kept s) (term_symbols_kept t)
  term_symbols_kept (greater s t) = both (term_symbols_kept s) (term_symbols_kept t)

  total_symbols_kept : (ts : Expressions) → symbols_in_term (plain_term (total ts)) ≡ symbols_in_terms ts
  total_symbols_kept no_expression = refl
  total_symbols_kept (and_expression t ts) = summed_symbols t ts (term_symbols_kept t) (terms_symbols_kept ts)

  terms_symbols_kept : (ts : Expressions) → symbols_in_terms (expressions (plain_terms ts)) ≡ symbols_in_terms ts
  terms_symbols_kept no_expression = refl
  terms_symbols_kept (and_expression t ts) = both (term_symbols_kept t) (terms_symbols_kept ts)
