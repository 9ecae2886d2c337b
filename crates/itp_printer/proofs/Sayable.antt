-- What is asked of a formula that is printed with the symbols of a problem.
use Rattle.std.proofs.Common.{ℕ, suc, ◌≡◌, ◌+◌, ◌≤◌, ◌<◌, ◌^◌, List, [], ◌∷◌, ◌++◌, length, map, refl, ap, sym, subst, arith, length-append}
use Rattle.form_typed.specs.Formula.{Formula, Formulas, Expression, Expressions, formula, constant, compares, applies, negation, every, some, implies, iff, for_all, for_some, part, no_formula, and_formula, number, name, call, minus, total, product, choice, absolute, lesser, greater, no_expression, and_expression}
use Rattle.form_typed.specs.declared.typed.Typed.{Typed}
use Rattle.pri_typing.specs.declared.problem.Problem.{Problem}
use Rattle.pri_typing.specs.declared.problem.Symbol.{Symbol}
use Rattle.base_limits.specs.Limits.{most_symbols}
use Rattle.pri_typing.specs.Everywhere.{Property, Everywhere, AllEverywhere, TermEverywhere, TermsEverywhere}
use Rattle.pri_typing.specs.WellFormed.{IsWellFormed, names_of_symbols, IsNumberRanged, IsNameBelow, IsFunctionDeclared, IsLinear, IsPredicateDeclared, IsBinderRanged, of_formulas, of_terms}
use Rattle.pri_typing.proofs.Everywhere.{everywhere_more}
use Rattle.pri_printer.specs.Printed.{constants_of}
use Rattle.itp_printer.specs.Pieces.{IsPrintableTerm}
use Rattle.itp_printer.specs.Replaced.{with_formula}

-- fewer than 2^64 quantifiers stand around a quantifier
abbrev pub IsShallow : ℕ → Formula → Type 0
IsShallow n (for_all s f) = n < 2 ^ 64
IsShallow n (for_some s f) = n < 2 ^ 64
IsShallow n _ = Unit {0}

-- the quantifiers of a formula are nested less than 2^64 deep
abbrev pub IsNested : Formula → Type 0
IsNested f = Everywhere (of_formulas IsShallow) 0 f

-- what is asked of a formula and of each in it
pub record IsFormulaFit (p : Problem) (n : ℕ) (f : Formula) : Type 0 where
  pub declared : IsPredicateDeclared p.predicates n f
  pub ranged : IsBinderRanged n f
  pub shallow : IsShallow n f

abbrev pub sayable : Problem → Property
sayable p = record { of_formula = IsFormulaFit p; of_term = IsPrintableTerm p }

-- Two properties at once.

abbrev pub both : Property → Property → Property
both P Q = record { of_formula = λ n f. P.of_formula n f × Q.of_formula n f; of_term = λ n t. P.of_term n t × Q.of_term n t }

mutual
  pub both_everywhere : (P Q : Property) (n : ℕ) (f : Formula) → Everywhere P n f → Everywhere Q n f → Everywhere (both P Q) n f
  both_everywhere P Q n (constant b) h k = (h, k)
  both_everywhere P Q n (compares r s t) h k = ((h.0, k.0), both_term P Q n s h.1 k.1, both_term P Q n t h.2 k.2)
  both_everywhere P Q n (applies p ts) h k = ((h.0, k.0), both_terms P Q n ts h.1 k.1)
  both_everywhere P Q n (negation f) h k = ((h.0, k.0), both_everywhere P Q n f h.1 k.1)
  both_everywhere P Q n (every fs) h k = ((h.0, k.0), both_all P Q n fs h.1 k.1)
  both_everywhere P Q n (some fs) h k = ((h.0, k.0), both_all P Q n fs h.1 k.1)
  both_everywhere P Q n (implies f g) h k = ((h.0, k.0), both_everywhere P Q n f h.1 k.1, both_everywhere P Q n g h.2 k.2)
  both_everywhere P Q n (iff f g) h k = ((h.0, k.0), both_everywhere P Q n f h.1 k.1, both_everywhere P Q n g h.2 k.2)
  both_everywhere P Q n (for_all s f) h k = ((h.0, k.0), both_everywhere P Q (suc n) f h.1 k.1)
  both_everywhere P Q n (for_some s f) h k = ((h.0, k.0), both_everywhere P Q (suc n) f h.1 k.1)
  both_everywhere P Q n (part j f) h k = ((h.0, k.0), both_everywhere P Q n f h.1 k.1)

  both_all : (P Q : Property) (n : ℕ) (fs : Formulas) → AllEverywhere P n fs → AllEverywhere Q n fs → AllEverywhere (both P Q) n fs
  both_all P Q n no_formula h k = tt
  both_all P Q n (and_formula f fs) h k = (both_everywhere P Q n f h.0 k.0, both_all P Q n fs h.1 k.1)

  both_term : (P Q : Property) (n : ℕ) (t : Expression) → TermEverywhere P n t → TermEverywhere Q n t → TermEverywhere (both P Q) n t
  both_term P Q n (number v) h k = (h, k)
  both_term P Q n (name x) h k = (h, k)
  both_term P Q n (call f ts) h k = ((h.0, k.0), both_terms P Q n ts h.1 k.1)
  both_term P Q n (minus t) h k = ((h.0, k.0), both_term P Q n t h.1 k.1)
  both_term P Q n (total ts) h k = ((h.0, k.0), both_terms P Q n ts h.1 k.1)
  both_term P Q n (product s t) h k = ((h.0, k.0), both_term P Q n s h.1 k.1, both_term P Q n t h.2 k.2)
  both_term P Q n (choice f s t) h k = ((h.0, k.0), both_everywhere P Q n f h.1 k.1, both_term P Q n s h.2 k.2, both_term P Q n t h.3 k.3)
  both_term P Q n (absolute t) h k = ((h.0, k.0), both_term P Q n t h.1 k.1)
  both_term P Q n (lesser s t) h k = ((h.0, k.0), both_term P Q n s h.1 k.1, both_term P Q n t h.2 k.2)
  both_term P Q n (greater s t) h k = ((h.0, k.0), both_term P Q n s h.1 k.1, both_term P Q n t h.2 k.2)

  both_terms : (P Q : Property) (n : ℕ) (ts : Expressions) → TermsEverywhere P n ts → TermsEverywhere Q n ts → TermsEverywhere (both P Q) n ts
  both_terms P Q n no_expression h k = tt
  both_terms P Q n (and_expression t ts) h k = (both_term P Q n t h.0 k.0, both_terms P Q n ts h.1 k.1)

pub few_names : (p : Problem) → length p.existentials + length p.universals + length p.functions + length p.predicates ≤ most_symbols → length (names_of_symbols p) ≤ 1000
few_names p few =
    let F = map (λ y. y.name) p.functions in let Q = map (λ y. y.name) p.predicates in
    omega (arith, few, length-append p.existentials p.universals, length-append (constants_of p) F, length-append (constants_of p ++ F) Q, map_length p.functions, map_length p.predicates)
  where
    map_length : (ys : List Symbol) → length (map (λ y. y.name) ys) ≡ length ys
    map_length [] = refl
    map_length (y ∷ ys) = ap suc (map_length ys)

-- what is asked of the terms of a well-formed problem's formula
abbrev terms_fit : Problem → Property
terms_fit p =
    both (of_terms IsNumberRanged) (both (of_terms (IsNameBelow (length (constants_of p)))) (both (of_terms (IsFunctionDeclared p.functions)) (of_terms IsLinear)))

terms_fit_by : (p : Problem) (f : Typed) → IsWellFormed (with_formula p f) → Everywhere (terms_fit p) 0 (formula f)
terms_fit_by p f good =
    let N = of_terms IsNumberRanged in
    let X = of_terms (IsNameBelow (length (constants_of p))) in
    let F = of_terms (IsFunctionDeclared p.functions) in
    let L = of_terms IsLinear in
    let names : Everywhere X 0 (formula f) = subst (λ n. Everywhere (of_terms (IsNameBelow n)) 0 (formula f)) (sym (length-append p.existentials p.universals)) good.names in
    both_everywhere N (both X (both F L)) 0 (formula f) good.numbers
    (both_everywhere X (both F L) 0 (formula f) names (both_everywhere F L 0 (formula f) good.functions good.products))

-- the terms of a well-formed problem's formula are fit, and its predicates declared, beside what else is known of its formulas
pub fit_with : (p : Problem) (f : Typed) (S : ℕ → Formula → Type 0) → IsWellFormed (with_formula p f) → Everywhere (of_formulas S) 0 (formula f)
    → Everywhere (record { of_formula = λ n g. IsPredicateDeclared p.predicates n g × S n g; of_term = IsPrintableTerm p }) 0 (formula f)
fit_with p f S good known =
    let Q = of_formulas (IsPredicateDeclared p.predicates) in
    let P = both (terms_fit p) (both Q (of_formulas S)) in
    everywhere_more P (record { of_formula = λ n g. IsPredicateDeclared p.predicates n g × S n g; of_term = IsPrintableTerm p }) (record {
      of_formula = λ n g h. h.1;
      of_term = λ n t h. record { ranged = h.0.0; named = h.0.1.0; declared = h.0.1.1.0; linear = h.0.1.1.1 };
    }) 0 (formula f)
    (both_everywhere (terms_fit p) (both Q (of_formulas S)) 0 (formula f) (terms_fit_by p f good)
    (both_everywhere Q (of_formulas S) 0 (formula f) good.predicates known))

-- what is asked of the formula follows from its being that of a well-formed problem
pub sayable_by : (p : Problem) (f : Typed) → IsWellFormed (with_formula p f) → IsNested (formula f) → Everywhere (sayable p) 0 (formula f)
sayable_by p f good nested =
    let B = of_formulas IsBinderRanged in
    let S : ℕ → Formula → Type 0 = λ n g. IsBinderRanged n g × IsShallow n g in
    let known : Everywhere (of_formulas S) 0 (formula f) =
    everywhere_more (both B (of_formulas IsShallow)) (of_formulas S) (record { of_formula = λ n g h. h; of_term = λ n t h. tt }) 0 (formula f)
    (both_everywhere B (of_formulas IsShallow) 0 (formula f) good.binders nested) in
    everywhere_more (record { of_formula = λ n g. IsPredicateDeclared p.predicates n g × S n g; of_term = IsPrintableTerm p }) (sayable p) (record {
      of_formula = λ n g h. record { declared = h.0; ranged = h.1.0; shallow = h.1.1 };
      of_term = λ n t h. h;
    }) 0 (formula f) (fit_with p f S good known)
