-- The text of a formula spells its plain form.
use Rattle.std.proofs.Common.{ℕ, suc, ◌≡◌, ◌≤◌, ◌^◌, true, false, ◌&&◌, List, [], ◌∷◌, ◌++◌, length, refl, sym, ap, subst, arith, pos, negsuc}
use Rattle.pri_reader.specs.declared.tree.Comparison.TheVariants as comparison
use Rattle.pri_reader.specs.Grammar.{whole, sum, conjunction, disjunction}
use Rattle.form_typed.specs.Formula.{Formula, Formulas, Expression, Expressions, constant, compares, applies, negation, every, some, implies, iff, for_all, for_some, part, no_formula, and_formula, number, name, call, minus, total, product, choice, absolute, lesser, greater, no_expression, and_expression, expressions}
use Rattle.form_typed.specs.declared.typed.Relation.{Relation}
use Rattle.form_typed.specs.declared.typed.Relation.TheVariants as relation
use Rattle.pri_typing.specs.declared.problem.Problem.{Problem}
use Rattle.pri_typing.specs.declared.scope.Referent.TheVariants as referent
use Rattle.pri_typing.specs.Everywhere.{Everywhere, AllEverywhere, TermEverywhere, TermsEverywhere}
use Rattle.pri_typing.specs.WellFormed.{size, is_numeric, are_numeric}
use Rattle.itp_printer.specs.Text.{applied_text}
use Rattle.itp_printer.specs.TypedText.{formula_text, formula_texts, term_text, term_texts, symbol_text, relation_text}
use Rattle.itp_printer.specs.Variables.{variable_text}
use Rattle.itp_printer.specs.Plain.{plain, plain_all, plain_term, plain_terms, summed}
use Rattle.itp_printer.proofs.Sayable.{sayable}
use Rattle.pri_printer.proofs.Spells.{IsFormula}
use Rattle.pri_printer.proofs.Spelling.{and_sign, or_sign, equal_sign, at_least_sign}
use Rattle.itp_printer.proofs.Productions.{unequal_sign, less_sign, at_most_sign, greater_sign}
use Rattle.itp_printer.proofs.Arguments.{Said, IsSaid, all_numeric}
use Rattle.itp_printer.proofs.Referring.{scope_at, CanSay, IsNamed, name_named, function_named, predicate_named, word_by}
use Rattle.itp_printer.proofs.Free.{variable_is}
use Rattle.itp_printer.proofs.SaidTerms.{Spelled, number_said, negative_said, name_said, minus_said, product_said, absolute_said, lesser_said, greater_said}
use Rattle.itp_printer.proofs.SaidFormulas.{choice_said, truth_said, compared_said, negation_said, implies_said, iff_said, for_all_said, for_some_said}
use Rattle.itp_printer.proofs.SaidLists.{AllSpelled, TermsSpelled, terms_of, chain_said, one_more_spelled, one_more_term, call_said, predicate_said, total_said}

-- a term with its plain form, and whether it is built of numbers alone
abbrev pub said : Expression → Said
said t = (plain_term t, is_numeric t)

abbrev pub said_all : Expressions → List Said
said_all no_expression = []
said_all (and_expression t ts) = said t ∷ said_all ts

said_terms : (ts : Expressions) → terms_of (said_all ts) ≡ plain_terms ts
said_terms no_expression = refl
said_terms (and_expression t ts) = ap (λ z. plain_term t ∷ z) (said_terms ts)

said_numeric : (ts : Expressions) → all_numeric (said_all ts) ≡ are_numeric ts
said_numeric no_expression = refl
said_numeric (and_expression t ts) = ap (λ z. is_numeric t && z) (said_numeric ts)

said_many : (ts : Expressions) → length (said_all ts) ≡ size ts
said_many no_expression = refl
said_many (and_expression t ts) = ap suc (said_many ts)

compared : (p : Problem) (d : ℕ) (r : Relation) (a b : Said) (u v : List ℕ) → Spelled sum (IsSaid (scope_at p d) a) u → Spelled sum (IsSaid (scope_at p d) b) v
    → Spelled whole (IsFormula (scope_at p d) (compares r a.0 b.0)) (u ++ (relation_text r ++ v))
compared p d relation.Eq a b u v h k = compared_said (scope_at p d) comparison.Equal (32 ∷ 61 ∷ 32 ∷ []) a b u v equal_sign h k
compared p d relation.Neq a b u v h k = compared_said (scope_at p d) comparison.Unequal (32 ∷ 33 ∷ 61 ∷ 32 ∷ []) a b u v unequal_sign h k
compared p d relation.Lt a b u v h k = compared_said (scope_at p d) comparison.Less (32 ∷ 60 ∷ 32 ∷ []) a b u v less_sign h k
compared p d relation.Leq a b u v h k = compared_said (scope_at p d) comparison.AtMost (32 ∷ 60 ∷ 61 ∷ 32 ∷ []) a b u v at_most_sign h k
compared p d relation.Gt a b u v h k = compared_said (scope_at p d) comparison.Greater (32 ∷ 62 ∷ 32 ∷ []) a b u v greater_sign h k
compared p d relation.Geq a b u v h k = compared_said (scope_at p d) comparison.AtLeast (32 ∷ 62 ∷ 61 ∷ 32 ∷ []) a b u v at_least_sign h k

mutual
  pub formula_said : (p : Problem) → CanSay p → (d : ℕ) → d ≤ 2 ^ 64 → (f : Formula) → Everywhere (sayable p) d f
      → Spelled whole (IsFormula (scope_at p d) (plain f)) (formula_text p d f)
  formula_said p good d l (constant b) h = truth_said (scope_at p d) b
  formula_said p good d l (compares r s t) h = compared p d r (said s) (said t) (term_text p d s) (term_text p d t) (term_said p good d l s h.1) (term_said p good d l t h.2)
  formula_said p good d l (applies k ts) h =
      subst (λ z. Spelled whole (IsFormula (scope_at p d) (applies k (expressions z))) (applied_text (symbol_text p.predicates k) (term_texts p d ts))) (said_terms ts)
      (predicate_said (scope_at p d) k (symbol_text p.predicates k) (term_texts p d ts) (said_all ts)
      (subst (λ z. IsNamed (scope_at p d) (referent.Predicate k z) (symbol_text p.predicates k)) (sym (said_many ts)) (predicate_named p d k (size ts) good (omega arith) h.0.declared))
      (terms_said p good d l ts h.1))
  formula_said p good d l (negation f) h = negation_said (scope_at p d) (plain f) (formula_text p d f) (formula_said p good d l f h.1)
  formula_said p good d l (every fs) h =
      chain_said conjunction (scope_at p d) (116 ∷ 114 ∷ 117 ∷ 101 ∷ []) (32 ∷ 38 ∷ 32 ∷ []) (constant true) and_sign (truth_said (scope_at p d) true)
      (formula_texts p d fs) (plain_all fs) (formulas_said p good d l fs h.1)
  formula_said p good d l (some fs) h =
      chain_said disjunction (scope_at p d) (102 ∷ 97 ∷ 108 ∷ 115 ∷ 101 ∷ []) (32 ∷ 124 ∷ 32 ∷ []) (constant false) or_sign (truth_said (scope_at p d) false)
      (formula_texts p d fs) (plain_all fs) (formulas_said p good d l fs h.1)
  formula_said p good d l (implies f g) h =
      implies_said (scope_at p d) (plain f) (plain g) (formula_text p d f) (formula_text p d g) (formula_said p good d l f h.1) (formula_said p good d l g h.2)
  formula_said p good d l (iff f g) h =
      iff_said (scope_at p d) (plain f) (plain g) (formula_text p d f) (formula_text p d g) (formula_said p good d l f h.1) (formula_said p good d l g h.2)
  formula_said p good d l (for_all sort f) h =
      let v = word_by (variable_text p d) (variable_is p d (omega (arith, h.0.shallow))) in
      for_all_said (scope_at p d) sort (plain f) (variable_text p d) (formula_text p (suc d) f) h.0.ranged v.0 v.1 (formula_said p good (suc d) (omega (arith, h.0.shallow)) f h.1)
  formula_said p good d l (for_some sort f) h =
      let v = word_by (variable_text p d) (variable_is p d (omega (arith, h.0.shallow))) in
      for_some_said (scope_at p d) sort (plain f) (variable_text p d) (formula_text p (suc d) f) h.0.ranged v.0 v.1 (formula_said p good (suc d) (omega (arith, h.0.shallow)) f h.1)
  formula_said p good d l (part k f) h = formula_said p good d l f h.1

  pub formulas_said : (p : Problem) → CanSay p → (d : ℕ) → d ≤ 2 ^ 64 → (fs : Formulas) → AllEverywhere (sayable p) d fs
      → AllSpelled (scope_at p d) (formula_texts p d fs) (plain_all fs)
  formulas_said p good d l no_formula h = record { levels = 0; spells = tt }
  formulas_said p good d l (and_formula f fs) h =
      one_more_spelled (scope_at p d) (formula_text p d f) (formula_texts p d fs) (plain f) (plain_all fs) (formula_said p good d l f h.0) (formulas_said p good d l fs h.1)

  pub term_said : (p : Problem) → CanSay p → (d : ℕ) → d ≤ 2 ^ 64 → (t : Expression) → TermEverywhere (sayable p) d t
      → Spelled sum (IsSaid (scope_at p d) (said t)) (term_text p d t)
  term_said p good d l (number (pos n)) h = number_said n (scope_at p d) h.ranged
  term_said p good d l (number (negsuc n)) h = negative_said (suc n) (scope_at p d) h.ranged
  term_said p good d l (name x) h = name_said x (scope_at p d) _ (name_named p d x good (omega arith) h.named)
  term_said p good d l (call k ts) h =
      subst (λ z. Spelled sum (IsSaid (scope_at p d) (call k (expressions z), false)) (applied_text (symbol_text p.functions k) (term_texts p d ts))) (said_terms ts)
      (call_said (scope_at p d) k (symbol_text p.functions k) (term_texts p d ts) (said_all ts)
      (subst (λ z. IsNamed (scope_at p d) (referent.Function k z) (symbol_text p.functions k)) (sym (said_many ts)) (function_named p d k (size ts) good (omega arith) h.0.declared.0))
      (subst (λ z. 1 ≤ z) (sym (said_many ts)) h.0.declared.1)
      (terms_said p good d l ts h.1))
  term_said p good d l (minus t) h = minus_said (scope_at p d) (said t) (term_text p d t) (term_said p good d l t h.1)
  term_said p good d l (total ts) h =
      subst (λ z. Spelled sum (IsSaid (scope_at p d) (z, are_numeric ts)) (term_text p d (total ts))) (ap summed (said_terms ts))
      (subst (λ z. Spelled sum (IsSaid (scope_at p d) (summed (terms_of (said_all ts)), z)) (term_text p d (total ts))) (said_numeric ts)
      (total_said (scope_at p d) (term_texts p d ts) (said_all ts) (terms_said p good d l ts h.1)))
  term_said p good d l (product s t) h =
      product_said (scope_at p d) (said s) (said t) (term_text p d s) (term_text p d t) h.0.linear (term_said p good d l s h.1) (term_said p good d l t h.2)
  term_said p good d l (choice f s t) h =
      choice_said (scope_at p d) (plain f) (said s) (said t) (formula_text p d f) (term_text p d s) (term_text p d t)
      (formula_said p good d l f h.1) (term_said p good d l s h.2) (term_said p good d l t h.3)
  term_said p good d l (absolute t) h = absolute_said (scope_at p d) (said t) (term_text p d t) (term_said p good d l t h.1)
  term_said p good d l (lesser s t) h = lesser_said (scope_at p d) (said s) (said t) (term_text p d s) (term_text p d t) (term_said p good d l s h.1) (term_said p good d l t h.2)
  term_said p good d l (greater s t) h = greater_said (scope_at p d) (said s) (said t) (term_text p d s) (term_text p d t) (term_said p good d l s h.1) (term_said p good d l t h.2)

  pub terms_said : (p : Problem) → CanSay p → (d : ℕ) → d ≤ 2 ^ 64 → (ts : Expressions) → TermsEverywhere (sayable p) d ts
      → TermsSpelled (scope_at p d) (term_texts p d ts) (said_all ts)
  terms_said p good d l no_expression h = record { levels = 0; spells = tt }
  terms_said p good d l (and_expression t ts) h =
      one_more_term (scope_at p d) (term_text p d t) (term_texts p d ts) (said t) (said_all ts) (term_said p good d l t h.0) (terms_said p good d l ts h.1)
