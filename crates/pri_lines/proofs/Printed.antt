-- What a constraint over the existential constants prints as, and what its formula says.
use Rattle.std.proofs.Common.{◌≡◌, ◌↔◌, ℕ, ◌≤◌, ◌+◌, ℤ, Bool, true, false, cond, nat_eq, List, [], ◌∷◌, ◌++◌, length, map, refl, sym, ◌∙◌, ap, subst, length-append, arith}
use Rattle.std.proofs.Math.Nat.{lt_of_not-le}
use Rattle.std.proofs.lemmas.Bool.Decides.{nat_tests}
use Rattle.linear_term.specs.Linear.{has_name, mentions}
use Rattle.clause_set.specs.declared.literal.Literal.{Literal}
use Rattle.clause_set.specs.Literals.{term_of, dnf_truth}
use Rattle.form_typed.specs.Formula.{Formula}
use Rattle.form_typed.specs.Truth.{Meaning}
use Rattle.elim_laws.specs.Whole.{AreOver, Lacks}
use Rattle.pri_typing.specs.declared.problem.Problem.{Problem}
use Rattle.pri_typing.specs.declared.problem.Symbol.{Symbol}
use Rattle.pri_typing.specs.declared.scope.Category.TheVariants as category
use Rattle.pri_typing.specs.Faults.{faults}
use Rattle.pri_typing.specs.Phrase.{phrase, first_token}
use Rattle.pri_typing.specs.Problems.{IsTrueAt, Says, SpeaksOfExistentials, scope_of_problem}
use Rattle.pri_typing.specs.Typing.{says}
use Rattle.pri_typing.specs.WellFormed.{names_of_symbols}
use Rattle.pri_printer.specs.Formulas.{normal_form_formula}
use Rattle.pri_printer.specs.Names.{PairNames, ClauseNames, DnfNames, IsVariableBelow}
use Rattle.pri_printer.specs.Printed.{constants_of, dnf_text, dnf_formula}
use Rattle.pri_printer.specs.Quotient.{quotient_name, quotient_number, free_from}
use Rattle.pri_printer.specs.Text.{normal_form_text}
use Rattle.pri_printer.proofs.Outer.{existentials_true}
use Rattle.pri_printer.proofs.Plain.{printed_existentials}
use Rattle.pri_problem.specs.Reads.{AreSame}
use Rattle.pri_lines.specs.Constraint.{IsTextOf}

-- ---- names below n

named-first : (p : ℕ × ℤ) (ps : List (ℕ × ℤ)) → has_name (p ∷ ps) p.0 ≡ true
named-first p ps = let one : nat_eq p.0 p.0 ≡ true = grind (arith, nat_tests) in rw one refl

unnamed-rest : (p : ℕ × ℤ) (ps : List (ℕ × ℤ)) (y : ℕ) → has_name (p ∷ ps) y ≡ false → has_name ps y ≡ false
unnamed-rest p ps y h = by (nat_eq p.0 y) h
  where
    by : (b : Bool) → cond b true (has_name ps y) ≡ false → has_name ps y ≡ false
    by true e = absurd cc
    by false e = e

pairs_below : (n : ℕ) (ps : List (ℕ × ℤ)) → ((y : ℕ) → n ≤ y → has_name ps y ≡ false) → PairNames (IsVariableBelow n) ps
pairs_below n [] h = tt
pairs_below n (p ∷ ps) h =
    (lt_of_not-le (λ (le : n ≤ p.0). let bad : true ≡ false = sym (named-first p ps) ∙ h p.0 le in absurd cc), pairs_below n ps (λ y le. unnamed-rest p ps y (h y le)))

clause_below : (n : ℕ) (c : List Literal) → ((y : ℕ) → n ≤ y → Lacks y c) → ClauseNames (IsVariableBelow n) c
unfolding mentions
clause_below n [] h = tt
clause_below n (l ∷ ls) h = (pairs_below n (term_of l).pairs (λ y le. (h y le).0), clause_below n ls (λ y le. (h y le).1))

-- a normal form over n names has names below n alone
pub names_below : (n : ℕ) (d : List (List Literal)) → AreOver n d → DnfNames (IsVariableBelow n) d
names_below n [] h = tt
names_below n (c ∷ cs) h = (clause_below n c (λ y le. (h y le).0), names_below n cs (λ y le. (h y le).1))

-- those of the existential constants are those of constants
pub constants_below : (p : Problem) (d : List (List Literal)) → AreOver (length p.existentials) d → DnfNames (IsVariableBelow (length (constants_of p))) d
constants_below p d h =
    names_below (length (constants_of p)) d (λ y le. h y (let m = length-append p.existentials p.universals in omega arith))

-- and one over all constants is over these
pub all_below : (p : Problem) (d : List (List Literal)) → AreOver (length p.existentials + length p.universals) d → DnfNames (IsVariableBelow (length (constants_of p))) d
all_below p d h =
    names_below (length (constants_of p)) d (λ y le. h y (let m = length-append p.existentials p.universals in omega (arith, le, m)))

-- ---- what the formula says

pub speaks : (p : Problem) (d : List (List Literal)) → AreOver (length p.existentials) d → SpeaksOfExistentials p (dnf_formula p d)
speaks p d h = printed_existentials p d (names_below (length p.existentials) d h)

pub true_where : (w : Meaning) (p : Problem) (d : List (List Literal)) (e : List ℤ) → AreOver (length p.existentials) d → length e ≡ length p.existentials
    → IsTrueAt w p (dnf_formula p d) e ↔ (dnf_truth d e ≡ true)
true_where w p d e h many = existentials_true w p d e (names_below (length p.existentials) d h) many

-- ---- the same problem

constants_same : (p q : Problem) → AreSame p q → constants_of p ≡ constants_of q
constants_same p q same = ap (λ xs. xs ++ p.universals) same.existentials ∙ ap (λ xs. q.existentials ++ xs) same.universals

symbols_same : (p q : Problem) → AreSame p q → names_of_symbols p ≡ names_of_symbols q
symbols_same p q same =
    ap (λ (xs : List (List ℕ)). xs ++ map (λ (y : Symbol). y.name) p.functions ++ map (λ (y : Symbol). y.name) p.predicates) (constants_same p q same)
    ∙ ap (λ (ys : List Symbol). constants_of q ++ map (λ (y : Symbol). y.name) ys ++ map (λ (y : Symbol). y.name) p.predicates) same.functions
    ∙ ap (λ (ys : List Symbol). constants_of q ++ map (λ (y : Symbol). y.name) q.functions ++ map (λ (y : Symbol). y.name) ys) same.predicates

quotient_same : (p q : Problem) → AreSame p q → quotient_number p ≡ quotient_number q
unfolding quotient_number
quotient_same p q same = ap (free_from 1000 0) (symbols_same p q same)

dnf_text_same : (p q : Problem) (d : List (List Literal)) → AreSame p q → dnf_text p d ≡ dnf_text q d
dnf_text_same p q d same =
    ap (λ xs. normal_form_text xs (quotient_name (quotient_number p)) d) (constants_same p q same)
    ∙ ap (λ k. normal_form_text (constants_of q) (quotient_name k) d) (quotient_same p q same)

dnf_formula_same : (p q : Problem) (d : List (List Literal)) → AreSame p q → dnf_formula p d ≡ dnf_formula q d
dnf_formula_same p q d same = ap (λ xs. normal_form_formula (length xs) d) (constants_same p q same)

scope_same : (p q : Problem) → AreSame p q → scope_of_problem p ≡ scope_of_problem q
scope_same p q same = rw (same.existentials, same.universals, same.functions, same.predicates, same.parts) refl

says_same : (p q : Problem) (x : List ℕ) (f g : Formula) → AreSame p q → f ≡ g → Says x p f → Says x q g
says_same p q x f g same is h = record {
  expression = h.expression;
  derived = h.derived;
  typed = subst (λ s. faults s category.Formula (first_token (phrase h.expression)) (phrase h.expression) ≡ []) (scope_same p q same) h.typed;
  is = sym (ap (λ s. says s (phrase h.expression)) (scope_same p q same)) ∙ h.is ∙ is;
}

pub text_same : (p q : Problem) (d : List (List Literal)) (x : List ℕ) → AreSame p q → IsTextOf p d x → IsTextOf q d x
text_same p q d x same h = record {
  text = h.text ∙ dnf_text_same p q d same;
  says = says_same p q x (dnf_formula p d) (dnf_formula q d) same (dnf_formula_same p q d same) h.says;
  limits = h.limits;
}
