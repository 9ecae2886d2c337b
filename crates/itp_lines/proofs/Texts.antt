-- The text of a formula is that of the same problem.
use Rattle.std.proofs.Common.{◌≡◌, ◌-◌, ℕ, zero, suc, true, false, cond, nat_lt, List, [], ◌∷◌, ◌++◌, length, map, slice_index_or, refl, sym, ◌∙◌, ap, subst, codes}
use Rattle.form_typed.specs.Formula.{Formula, Formulas, Expression, Expressions, constant, compares, applies, negation, every, some, implies, iff, for_all, for_some, part, no_formula, and_formula, number, name, call, minus, total, product, choice, absolute, lesser, greater, no_expression, and_expression}
use Rattle.pri_typing.specs.declared.problem.Problem.{Problem}
use Rattle.pri_typing.specs.declared.problem.Symbol.{Symbol}
use Rattle.pri_typing.specs.declared.scope.Category.TheVariants as category
use Rattle.pri_typing.specs.Faults.{faults}
use Rattle.pri_typing.specs.Phrase.{phrase, first_token}
use Rattle.pri_typing.specs.Problems.{Says, scope_of_problem}
use Rattle.pri_typing.specs.Typing.{says}
use Rattle.pri_typing.specs.WellFormed.{names_of_symbols}
use Rattle.pri_printer.specs.Printed.{constants_of}
use Rattle.pri_problem.specs.Reads.{AreSame}
use Rattle.itp_printer.specs.Text.{grouped, joined_text, applied_text}
use Rattle.itp_printer.specs.TypedText.{bound_text, formula_text, formula_texts, name_text, relation_text, symbol_text, term_text, term_texts}
use Rattle.itp_printer.specs.Variables.{free_from, next_number, variable_name, variable_number, variable_text}

module _ (p q : Problem) (same : AreSame p q) where
  names_same : constants_of p ≡ constants_of q
  names_same = λ i. same.existentials i ++ same.universals i

  symbols_same : names_of_symbols p ≡ names_of_symbols q
  symbols_same = λ i. same.existentials i ++ same.universals i ++ map (λ (y : Symbol). y.name) (same.functions i) ++ map (λ (y : Symbol). y.name) (same.predicates i)

  next_same : (n : ℕ) → next_number p n ≡ next_number q n
  unfolding next_number
  next_same n = ap (free_from 1000 n) symbols_same

  number_same : (d : ℕ) → variable_number p d ≡ variable_number q d
  number_same zero = next_same 0
  number_same (suc d) = next_same (suc (variable_number p d)) ∙ ap (λ n. next_number q (suc n)) (number_same d)

  variable_same : (d : ℕ) → variable_text p d ≡ variable_text q d
  variable_same d = ap variable_name (number_same d)

  name_same : (x : ℕ) → name_text p x ≡ name_text q x
  name_same x =
      ap (λ ns. cond (nat_lt x (length ns)) (slice_index_or ns x []) (variable_text p (x - length ns))) names_same
      ∙ ap (λ v. cond (nat_lt x (length (constants_of q))) (slice_index_or (constants_of q) x []) v) (variable_same (x - length (constants_of q)))

  mutual
    pub formula_same : (d : ℕ) (f : Formula) → formula_text p d f ≡ formula_text q d f
    formula_same d (constant b) = refl
    formula_same d (compares r s t) = λ i. term_same d s i ++ (relation_text r ++ term_same d t i)
    formula_same d (applies k ts) = λ i. applied_text (symbol_text (same.predicates i) k) (terms_same d ts i)
    formula_same d (negation f) = λ i. codes "!" ++ grouped (formula_same d f i)
    formula_same d (every fs) = ap (joined_text (codes "true") (codes " & ")) (formulas_same d fs)
    formula_same d (some fs) = ap (joined_text (codes "false") (codes " | ")) (formulas_same d fs)
    formula_same d (implies f g) = λ i. grouped (formula_same d f i) ++ (codes " -> " ++ grouped (formula_same d g i))
    formula_same d (iff f g) = λ i. grouped (formula_same d f i) ++ (codes " <-> " ++ grouped (formula_same d g i))
    formula_same d (for_all s f) = λ i. bound_text true s (variable_same d i) (formula_same (suc d) f i)
    formula_same d (for_some s f) = λ i. bound_text false s (variable_same d i) (formula_same (suc d) f i)
    formula_same d (part k f) = formula_same d f

    formulas_same : (d : ℕ) (fs : Formulas) → formula_texts p d fs ≡ formula_texts q d fs
    formulas_same d no_formula = refl
    formulas_same d (and_formula f fs) = λ i. formula_same d f i ∷ formulas_same d fs i

    term_same : (d : ℕ) (t : Expression) → term_text p d t ≡ term_text q d t
    term_same d (number v) = refl
    term_same d (name x) = name_same x
    term_same d (call k ts) = λ i. applied_text (symbol_text (same.functions i) k) (terms_same d ts i)
    term_same d (minus t) = λ i. codes "-" ++ grouped (term_same d t i)
    term_same d (total ts) = ap (joined_text (codes "0") (codes " + ")) (terms_same d ts)
    term_same d (product s t) = λ i. grouped (term_same d s i) ++ (codes "*" ++ grouped (term_same d t i))
    term_same d (choice f s t) = λ i.
        codes "\\if " ++ (grouped (formula_same d f i) ++ (codes " \\then " ++ (grouped (term_same d s i) ++ (codes " \\else " ++ grouped (term_same d t i)))))
    term_same d (absolute t) = λ i. codes "\\abs" ++ grouped (term_same d t i)
    term_same d (lesser s t) = λ i. codes "\\min" ++ grouped (term_same d s i ++ (codes ", " ++ term_same d t i))
    term_same d (greater s t) = λ i. codes "\\max" ++ grouped (term_same d s i ++ (codes ", " ++ term_same d t i))

    terms_same : (d : ℕ) (ts : Expressions) → term_texts p d ts ≡ term_texts q d ts
    terms_same d no_expression = refl
    terms_same d (and_expression t ts) = λ i. term_same d t i ∷ terms_same d ts i

  scope_same : scope_of_problem p ≡ scope_of_problem q
  scope_same = rw (same.existentials, same.universals, same.functions, same.predicates, same.parts) refl

  pub says_same : (x : List ℕ) (f g : Formula) → f ≡ g → Says x p f → Says x q g
  says_same x f g is h = record {
    expression = h.expression;
    derived = h.derived;
    typed = subst (λ s. faults s category.Formula (first_token (phrase h.expression)) (phrase h.expression) ≡ []) scope_same h.typed;
    is = sym (ap (λ s. says s (phrase h.expression)) scope_same) ∙ h.is ∙ is;
  }
