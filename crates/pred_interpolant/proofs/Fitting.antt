-- Formulas over the symbols of a problem: those of well-formed problems, what parts assume, and formulas with other names or under
-- quantifiers.
use Rattle.std.proofs.Common.{◌≡◌, ◌+◌, ◌<◌, ◌≤◌, ◌&&◌, ◌||◌, ℕ, zero, suc, Bool, true, false, cond, nat_eq, nat_lt, List, [], ◌∷◌, ◌++◌, length, refl, sym, ◌∙◌, ap, subst, arith}
use Rattle.std.specs.List.{AllByRecursion, list_any}
use Rattle.std.proofs.lemmas.Bool.{false≢true}
use Rattle.std.proofs.lemmas.Bool.Decides.{nat_tests}
use Rattle.std.proofs.lemmas.List.Elements.{recursion_from_All}
use Rattle.form_typed.specs.declared.typed.Typed.{Typed}
use Rattle.form_typed.specs.declared.typed.Sort.{Sort}
use Rattle.form_typed.specs.Sorts.{IsSortRanged}
use Rattle.form_typed.specs.Formula.{Formula, Formulas, Expression, Expressions, formula, formulas, constant, compares, applies, negation, every, some, implies, iff, for_all, for_some, part, no_formula, and_formula, number, name, call, minus, total, product, choice, absolute, lesser, greater, no_expression, and_expression}
use Rattle.pri_typing.specs.declared.problem.Problem.{Problem}
use Rattle.pri_typing.specs.Problems.{assumed_by}
use Rattle.pri_typing.specs.Everywhere.{Property, Everywhere, AllEverywhere, TermEverywhere, TermsEverywhere}
use Rattle.pri_typing.specs.WellFormed.{IsWellFormed, HasArity, IsNumberRanged, IsNameBelow, IsFunctionDeclared, HasMember, IsLinear, IsPredicateDeclared, IsBinderRanged, IsPartBelow, of_formulas, of_terms, size, is_numeric, are_numeric}
use Rattle.pri_typing.proofs.Everywhere.{everywhere_more}
use Rattle.form_encoding.specs.Meaning.{type_at}
use Rattle.form_encoding.specs.Problems.{constants, types}
use Rattle.form_encoding.proofs.Parts.{assumed_everywhere}
use Rattle.itp_sides.specs.Closing.{closed, place_of, quantified, rebound, renamed, renamed_all, renamed_term, renamed_terms, types_of}
use Rattle.itp_printer.specs.Replaced.{with_formula}
use Rattle.itp_printer.proofs.Sayable.{both, both_everywhere}
use Rattle.pred_interpolant.specs.Fit.{IsFitFormula, IsFormulaFit, IsTermFit, fit}

-- ---- well-formed problems

abbrev of_forms : Problem → Property
of_forms p = both (of_formulas (IsPredicateDeclared p.predicates)) (both (of_formulas IsBinderRanged) (of_formulas (IsPartBelow (length p.parts))))

abbrev of_expressions : Problem → Property
of_expressions p =
    both (of_terms IsNumberRanged) (both (of_terms (IsNameBelow (constants p))) (both (of_terms (IsFunctionDeclared p.functions)) (both (of_terms HasMember) (of_terms IsLinear))))

-- the formula of a well-formed problem can stand in it
pub formed_fit : (p : Problem) → IsWellFormed p → IsFitFormula p (formula p.formula)
formed_fit p good =
    let f = formula p.formula in
    let P = of_formulas (IsPredicateDeclared p.predicates) in
    let B = of_formulas IsBinderRanged in
    let A = of_formulas (IsPartBelow (length p.parts)) in
    let N = of_terms IsNumberRanged in
    let X = of_terms (IsNameBelow (constants p)) in
    let F = of_terms (IsFunctionDeclared p.functions) in
    let M = of_terms HasMember in
    let L = of_terms IsLinear in
    everywhere_more (both (of_forms p) (of_expressions p)) (fit p) (record {
      of_formula = λ n g h. record { predicate = h.0.0; binder = h.0.1.0; part = h.0.1.1 };
      of_term = λ n t h. record { number = h.1.0; name = h.1.1.0; function = h.1.1.1.0; sum = h.1.1.1.1.0; product = h.1.1.1.1.1 };
    }) 0 f
    (both_everywhere (of_forms p) (of_expressions p) 0 f
    (both_everywhere P (both B A) 0 f good.predicates (both_everywhere B A 0 f good.binders good.parts))
    (both_everywhere N (both X (both F (both M L))) 0 f good.numbers
    (both_everywhere X (both F (both M L)) 0 f good.names
    (both_everywhere F (both M L) 0 f good.functions (both_everywhere M L 0 f good.sums good.products)))))

formula_part : (p : Problem) (f : Formula) (P : ℕ → Formula → Type 0) → ((n : ℕ) (g : Formula) → IsFormulaFit p n g → P n g) → IsFitFormula p f → Everywhere (of_formulas P) 0 f
formula_part p f P h = everywhere_more (fit p) (of_formulas P) (record { of_formula = h; of_term = λ n t k. tt }) 0 f

term_part : (p : Problem) (f : Formula) (P : ℕ → Expression → Type 0) → ((n : ℕ) (t : Expression) → IsTermFit p n t → P n t) → IsFitFormula p f → Everywhere (of_terms P) 0 f
term_part p f P h = everywhere_more (fit p) (of_terms P) (record { of_formula = λ n g k. tt; of_term = h }) 0 f

-- with a formula that can stand in it the problem is well formed, without its cuts
pub fit_formed : (p : Problem) (t : Typed) → IsWellFormed p → IsFitFormula p (formula t) → IsWellFormed (with_formula p t)
fit_formed p t good h = record {
  few = good.few;
  numbers = term_part p (formula t) IsNumberRanged (λ n u k. k.number) h;
  names = term_part p (formula t) (IsNameBelow (constants p)) (λ n u k. k.name) h;
  predicates = formula_part p (formula t) (IsPredicateDeclared p.predicates) (λ n g k. k.predicate) h;
  functions = term_part p (formula t) (IsFunctionDeclared p.functions) (λ n u k. k.function) h;
  sums = term_part p (formula t) HasMember (λ n u k. k.sum) h;
  products = term_part p (formula t) IsLinear (λ n u k. k.product) h;
  binders = formula_part p (formula t) IsBinderRanged (λ n g k. k.binder) h;
  existential_types = good.existential_types;
  universal_types = good.universal_types;
  parts = formula_part p (formula t) (IsPartBelow (length p.parts)) (λ n g k. k.part) h;
  divisible = λ l. absurd (omega arith);
  divided = λ k d l. absurd (omega arith);
}

pub assumed_fit : (p : Problem) (set : List ℕ) → IsWellFormed p → IsFitFormula p (assumed_by p set)
assumed_fit p set good =
    assumed_everywhere (fit p) (record { nots = λ f. record { predicate = tt; binder = tt; part = tt }; everies = λ fs. record { predicate = tt; binder = tt; part = tt } }) p set
    (formed_fit p good)

pub implies_fit : (p : Problem) (f g : Formula) → IsFitFormula p f → IsFitFormula p g → IsFitFormula p (implies f g)
implies_fit p f g h k = (record { predicate = tt; binder = tt; part = tt }, h, k)

pub both_fit : (p : Problem) (f g : Formula) → IsFitFormula p f → IsFitFormula p g → IsFitFormula p (every (formulas (f ∷ g ∷ [])))
both_fit p f g h k = (record { predicate = tt; binder = tt; part = tt }, (h, (k, tt)))

pub denied_fit : (p : Problem) (f : Formula) → IsFitFormula p f → IsFitFormula p (negation f)
denied_fit p f h = (record { predicate = tt; binder = tt; part = tt }, h)

pub false_fit : (p : Problem) → IsFitFormula p (constant false)
false_fit p = record { predicate = tt; binder = tt; part = tt }

-- ---- other names

size-renamed : (r : ℕ → ℕ) (ts : Expressions) → size (renamed_terms r ts) ≡ size ts
size-renamed r no_expression = refl
size-renamed r (and_expression t ts) = ap suc (size-renamed r ts)

mutual
  numeric-renamed : (r : ℕ → ℕ) (t : Expression) → is_numeric (renamed_term r t) ≡ is_numeric t
  numeric-renamed r (number v) = refl
  numeric-renamed r (name x) = refl
  numeric-renamed r (call f ts) = refl
  numeric-renamed r (minus t) = numeric-renamed r t
  numeric-renamed r (total ts) = all_numeric-renamed r ts
  numeric-renamed r (product s t) = λ i. numeric-renamed r s i && numeric-renamed r t i
  numeric-renamed r (choice f s t) = refl
  numeric-renamed r (absolute t) = refl
  numeric-renamed r (lesser s t) = refl
  numeric-renamed r (greater s t) = refl

  all_numeric-renamed : (r : ℕ → ℕ) (ts : Expressions) → are_numeric (renamed_terms r ts) ≡ are_numeric ts
  all_numeric-renamed r no_expression = refl
  all_numeric-renamed r (and_expression t ts) = λ i. numeric-renamed r t i && all_numeric-renamed r ts i

-- names of constants and of bound variables go to such, where k more quantifiers stand around
abbrev Goes : Problem → (ℕ → ℕ) → ℕ → Type 0
Goes p r k = (x n : ℕ) → x < constants p + n → r x < constants p + (n + k)

plain_form : (p : Problem) (n : ℕ) (f : Formula) → IsPredicateDeclared p.predicates n f → IsBinderRanged n f → IsPartBelow (length p.parts) n f → IsFormulaFit p n f
plain_form p n f a b c = record { predicate = a; binder = b; part = c }

under : (p : Problem) (n k : ℕ) (f : Formula) → Everywhere (fit p) (suc n + k) f → Everywhere (fit p) (suc (n + k)) f
under p n k f h = subst (λ m. Everywhere (fit p) m f) (omega arith) h

mutual
  pub renamed_fit : (p : Problem) (r : ℕ → ℕ) (k : ℕ) → Goes p r k → (n : ℕ) (f : Formula) → Everywhere (fit p) n f → Everywhere (fit p) (n + k) (renamed r f)
  renamed_fit p r k g n (constant b) h = record { predicate = tt; binder = tt; part = tt }
  renamed_fit p r k g n (compares c s t) h = (record { predicate = tt; binder = tt; part = tt }, term_fit p r k g n s h.1, term_fit p r k g n t h.2)
  renamed_fit p r k g n (applies q ts) h =
      (record { predicate = subst (HasArity p.predicates q) (sym (size-renamed r ts)) h.0.predicate; binder = tt; part = tt }, terms_fit p r k g n ts h.1)
  renamed_fit p r k g n (negation f) h = (record { predicate = tt; binder = tt; part = tt }, renamed_fit p r k g n f h.1)
  renamed_fit p r k g n (every fs) h = (record { predicate = tt; binder = tt; part = tt }, all_fit p r k g n fs h.1)
  renamed_fit p r k g n (some fs) h = (record { predicate = tt; binder = tt; part = tt }, all_fit p r k g n fs h.1)
  renamed_fit p r k g n (implies f e) h = (record { predicate = tt; binder = tt; part = tt }, renamed_fit p r k g n f h.1, renamed_fit p r k g n e h.2)
  renamed_fit p r k g n (iff f e) h = (record { predicate = tt; binder = tt; part = tt }, renamed_fit p r k g n f h.1, renamed_fit p r k g n e h.2)
  renamed_fit p r k g n (for_all s f) h =
      (record { predicate = tt; binder = h.0.binder; part = tt }, under p n k (renamed r f) (renamed_fit p r k g (suc n) f h.1))
  renamed_fit p r k g n (for_some s f) h =
      (record { predicate = tt; binder = h.0.binder; part = tt }, under p n k (renamed r f) (renamed_fit p r k g (suc n) f h.1))
  renamed_fit p r k g n (part j f) h = (record { predicate = tt; binder = tt; part = h.0.part }, renamed_fit p r k g n f h.1)

  all_fit : (p : Problem) (r : ℕ → ℕ) (k : ℕ) → Goes p r k → (n : ℕ) (fs : Formulas) → AllEverywhere (fit p) n fs → AllEverywhere (fit p) (n + k) (renamed_all r fs)
  all_fit p r k g n no_formula h = tt
  all_fit p r k g n (and_formula f fs) h = (renamed_fit p r k g n f h.0, all_fit p r k g n fs h.1)

  term_fit : (p : Problem) (r : ℕ → ℕ) (k : ℕ) → Goes p r k → (n : ℕ) (t : Expression) → TermEverywhere (fit p) n t → TermEverywhere (fit p) (n + k) (renamed_term r t)
  term_fit p r k g n (number v) h = record { number = h.number; name = tt; function = tt; sum = tt; product = tt }
  term_fit p r k g n (name x) h = record { number = tt; name = g x n h.name; function = tt; sum = tt; product = tt }
  term_fit p r k g n (call f ts) h =
      (record { number = tt; name = tt; function = subst (λ z. HasArity p.functions f z × (1 ≤ z)) (sym (size-renamed r ts)) h.0.function; sum = tt; product = tt }, terms_fit p r k g n ts h.1)
  term_fit p r k g n (minus t) h = (record { number = tt; name = tt; function = tt; sum = tt; product = tt }, term_fit p r k g n t h.1)
  term_fit p r k g n (total ts) h =
      (record { number = tt; name = tt; function = tt; sum = subst (λ z. 1 ≤ z) (sym (size-renamed r ts)) h.0.sum; product = tt }, terms_fit p r k g n ts h.1)
  term_fit p r k g n (product s t) h =
      (record { number = tt; name = tt; function = tt; sum = tt; product = (λ i. numeric-renamed r s i || numeric-renamed r t i) ∙ h.0.product }, term_fit p r k g n s h.1, term_fit p r k g n t h.2)
  term_fit p r k g n (choice f s t) h =
      (record { number = tt; name = tt; function = tt; sum = tt; product = tt }, renamed_fit p r k g n f h.1, term_fit p r k g n s h.2, term_fit p r k g n t h.3)
  term_fit p r k g n (absolute t) h = (record { number = tt; name = tt; function = tt; sum = tt; product = tt }, term_fit p r k g n t h.1)
  term_fit p r k g n (lesser s t) h = (record { number = tt; name = tt; function = tt; sum = tt; product = tt }, term_fit p r k g n s h.1, term_fit p r k g n t h.2)
  term_fit p r k g n (greater s t) h = (record { number = tt; name = tt; function = tt; sum = tt; product = tt }, term_fit p r k g n s h.1, term_fit p r k g n t h.2)

  terms_fit : (p : Problem) (r : ℕ → ℕ) (k : ℕ) → Goes p r k → (n : ℕ) (ts : Expressions) → TermsEverywhere (fit p) n ts → TermsEverywhere (fit p) (n + k) (renamed_terms r ts)
  terms_fit p r k g n no_expression h = tt
  terms_fit p r k g n (and_expression t ts) h = (term_fit p r k g n t h.0, terms_fit p r k g n ts h.1)

-- ---- quantifiers

quantified_fit : (p : Problem) (all : Bool) (ss : List Sort) (n : ℕ) (f : Formula) → AllByRecursion IsSortRanged ss → Everywhere (fit p) (n + length ss) f → Everywhere (fit p) n (quantified all ss f)
quantified_fit p all [] n f r h = subst (λ m. Everywhere (fit p) m f) (omega arith) h
quantified_fit p true (s ∷ ss) n f r h =
    (record { predicate = tt; binder = r.0; part = tt }, quantified_fit p true ss (suc n) f r.1 (subst (λ m. Everywhere (fit p) m f) (omega arith) h))
quantified_fit p false (s ∷ ss) n f r h =
    (record { predicate = tt; binder = r.0; part = tt }, quantified_fit p false ss (suc n) f r.1 (subst (λ m. Everywhere (fit p) m f) (omega arith) h))

all_behind : (ss ts : List Sort) → AllByRecursion IsSortRanged ss → AllByRecursion IsSortRanged ts → AllByRecursion IsSortRanged (ss ++ ts)
all_behind [] ts h k = k
all_behind (s ∷ ss) ts h k = (h.0, all_behind ss ts h.1 k)

type_ranged : (ss : List Sort) (x : ℕ) → AllByRecursion IsSortRanged ss → IsSortRanged (type_at ss x)
type_ranged [] x h = tt
type_ranged (s ∷ ss) zero h = h.0
type_ranged (s ∷ ss) (suc x) h = type_ranged ss x h.1

types_ranged : (p : Problem) → IsWellFormed p → AllByRecursion IsSortRanged (types p)
types_ranged p good =
    all_behind p.existential_types p.universal_types (recursion_from_All IsSortRanged p.existential_types good.existential_types.ranged)
    (recursion_from_All IsSortRanged p.universal_types good.universal_types.ranged)

own_ranged : (p : Problem) (own : List ℕ) → IsWellFormed p → AllByRecursion IsSortRanged (types_of p own)
own_ranged p [] good = tt
own_ranged p (x ∷ own) good = (type_ranged (types p) x (types_ranged p good), own_ranged p own good)

length-types : (p : Problem) (own : List ℕ) → length (types_of p own) ≡ length own
length-types p [] = refl
length-types p (x ∷ own) = ap suc (length-types p own)

place_below : (x : ℕ) (own : List ℕ) → list_any (nat_eq x) own ≡ true → place_of x own < length own
place_below x [] h = absurd (false≢true h)
place_below x (y ∷ own) h = by (nat_eq x y) h (place_below x own)
  where
    by : (c : Bool) → (c || list_any (nat_eq x) own) ≡ true → (list_any (nat_eq x) own ≡ true → place_of x own < length own)
        → cond c 0 (suc (place_of x own)) < suc (length own)
    by true i f = omega arith
    by false i f = let k = f i in omega (arith, k)

rebound_goes : (p : Problem) (own : List ℕ) → Goes p (rebound (constants p) own) (length own)
rebound_goes p own x n lt = by (nat_lt x (constants p)) refl
  where
    c : ℕ
    c = constants p

    at : (b : Bool) → list_any (nat_eq x) own ≡ b → x < c → cond b (c + place_of x own) x < c + (n + length own)
    at true h l = let k = place_below x own h in omega (arith, k)
    at false h l = omega (arith, l)

    by : (b : Bool) → nat_lt x c ≡ b → cond b (cond (list_any (nat_eq x) own) (c + place_of x own) x) (x + length own) < c + (n + length own)
    by true h = at (list_any (nat_eq x) own) refl (grind (arith, nat_tests))
    by false h = omega (arith, lt)

-- a formula with some of the problem's constants under quantifiers
pub closed_fit : (p : Problem) (all : Bool) (own : List ℕ) (f : Formula) → IsWellFormed p → IsFitFormula p f → IsFitFormula p (closed all p own f)
closed_fit p all own f good h =
    quantified_fit p all (types_of p own) 0 (renamed (rebound (constants p) own) f) (own_ranged p own good)
    (subst (λ m. Everywhere (fit p) m (renamed (rebound (constants p) own) f)) (let l = length-types p own in omega (arith, l))
    (renamed_fit p (rebound (constants p) own) (length own) (rebound_goes p own) 0 f h))
