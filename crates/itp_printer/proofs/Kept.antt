-- The plain form of a formula has its names, in their order.
use Rattle.std.proofs.Common.{◌≡◌, pos, negsuc, true, false, List, ◌++◌, refl, sym, ◌∙◌, append-nil}
use Rattle.form_typed.specs.Formula.{Formula, Formulas, Expression, Expressions, formulas, expressions, constant, compares, applies, negation, every, some, implies, iff, for_all, for_some, part, no_formula, and_formula, number, name, call, minus, total, product, choice, absolute, lesser, greater, no_expression, and_expression}
use Rattle.form_encoding.specs.Occurrences.{names_in, names_in_all, names_in_term, names_in_terms}
use Rattle.itp_printer.specs.Plain.{plain, plain_all, plain_term, plain_terms, joined, summed}

-- two lists after one another
both : {A : Type 0} {a b c d : List A} → a ≡ b → c ≡ d → (a ++ c) ≡ (b ++ d)
both h k = λ i. h i ++ k i

-- one member before others
joined_names : (none : Formula) (join : Formulas → Formula) (f : Formula) (fs : Formulas) → ((gs : Formulas) → names_in (join gs) ≡ names_in_all gs)
    → names_in (plain f) ≡ names_in f → names_in_all (formulas (plain_all fs)) ≡ names_in_all fs
    → names_in (joined none join (plain_all (and_formula f fs))) ≡ names_in_all (and_formula f fs)
joined_names none join f no_formula j h k = h ∙ sym (append-nil (names_in f))
joined_names none join f (and_formula g fs) j h k = j (formulas (plain_all (and_formula f (and_formula g fs)))) ∙ both h k

summed_names : (t : Expression) (ts : Expressions) → names_in_term (plain_term t) ≡ names_in_term t → names_in_terms (expressions (plain_terms ts)) ≡ names_in_terms ts
    → names_in_term (summed (plain_terms (and_expression t ts))) ≡ names_in_terms (and_expression t ts)
summed_names t no_expression h k = h ∙ sym (append-nil (names_in_term t))
summed_names t (and_expression u ts) h k = both h k

mutual
  pub names_kept : (f : Formula) → names_in (plain f) ≡ names_in f
  names_kept (constant b) = refl
  names_kept (compares r s t) = both (term_names_kept s) (term_names_kept t)
  names_kept (applies p ts) = terms_names_kept ts
  names_kept (negation f) = names_kept f
  names_kept (every fs) = every_names_kept fs
  names_kept (some fs) = some_names_kept fs
  names_kept (implies f g) = both (names_kept f) (names_kept g)
  names_kept (iff f g) = both (names_kept f) (names_kept g)
  names_kept (for_all s f) = names_kept f
  names_kept (for_some s f) = names_kept f
  names_kept (part k f) = names_kept f

  every_names_kept : (fs : Formulas) → names_in (plain (every fs)) ≡ names_in_all fs
  every_names_kept no_formula = refl
  every_names_kept (and_formula f fs) = joined_names (constant true) every f fs (λ gs. refl) (names_kept f) (all_names_kept fs)

  some_names_kept : (fs : Formulas) → names_in (plain (some fs)) ≡ names_in_all fs
  some_names_kept no_formula = refl
  some_names_kept (and_formula f fs) = joined_names (constant false) some f fs (λ gs. refl) (names_kept f) (all_names_kept fs)

  all_names_kept : (fs : Formulas) → names_in_all (formulas (plain_all fs)) ≡ names_in_all fs
  all_names_kept no_formula = refl
  all_names_kept (and_formula f fs) = both (names_kept f) (all_names_kept fs)

  term_names_kept : (t : Expression) → names_in_term (plain_term t) ≡ names_in_term t
  term_names_kept (number (pos n)) = refl
  term_names_kept (number (negsuc n)) = refl
  term_names_kept (name x) = refl
  term_names_kept (call f ts) = terms_names_kept ts
  term_names_kept (minus t) = term_names_kept t
  term_names_kept (total ts) = total_names_kept ts
  term_names_kept (product s t) = both (term_names_kept s) (term_names_kept t)
  term_names_kept (choice f s t) = both (names_kept f) (both (term_names_kept s) (term_names_kept t))
  term_names_kept (absolute t) = term_names_kept t
  term_names_kept (lesser s t) = both (term_names_kept s) (term_names_kept t)
  term_names_kept (greater s t) = both (term_names_kept s) (term_names_kept t)

  total_names_kept : (ts : Expressions) → names_in_term (plain_term (total ts)) ≡ names_in_terms ts
  total_names_kept no_expression = refl
  total_names_kept (and_expression t ts) = summed_names t ts (term_names_kept t) (terms_names_kept ts)

  terms_names_kept : (ts : Expressions) → names_in_terms (expressions (plain_terms ts)) ≡ names_in_terms ts
  terms_names_kept no_expression = refl
  terms_names_kept (and_expression t ts) = both (term_names_kept t) (terms_names_kept ts)
