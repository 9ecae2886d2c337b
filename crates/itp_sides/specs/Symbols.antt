-- The predicates and functions that stand in a formula.
use Rattle.std.specs.Prelude.{ℕ, Bool, true, false, ◌&&◌, nat_eq, List, [], ◌∷◌, ◌++◌}
use Rattle.std.specs.Bool.{beq}
use Rattle.std.specs.List.{list_all, list_any}
use Rattle.form_typed.specs.Formula.{Formula, Formulas, Expression, Expressions, constant, compares, applies, negation, every, some, implies, iff, for_all, for_some, part, no_formula, and_formula, number, name, call, minus, total, product, choice, absolute, lesser, greater, no_expression, and_expression}

abbrev mutual
  -- the predicates and functions that stand in a formula: true with the number of a predicate, false with that of a function
  pub symbols_in : Formula → List (Bool × ℕ)
  symbols_in (constant b) = []
  symbols_in (compares r s t) = symbols_in_term s ++ symbols_in_term t
  symbols_in (applies p ts) = (true, p) ∷ symbols_in_terms ts
  symbols_in (negation f) = symbols_in f
  symbols_in (every fs) = symbols_in_all fs
  symbols_in (some fs) = symbols_in_all fs
  symbols_in (implies f g) = symbols_in f ++ symbols_in g
  symbols_in (iff f g) = symbols_in f ++ symbols_in g
  symbols_in (for_all s f) = symbols_in f
  symbols_in (for_some s f) = symbols_in f
  symbols_in (part k f) = symbols_in f

  pub symbols_in_all : Formulas → List (Bool × ℕ)
  symbols_in_all no_formula = []
  symbols_in_all (and_formula f fs) = symbols_in f ++ symbols_in_all fs

  pub symbols_in_term : Expression → List (Bool × ℕ)
  symbols_in_term (number v) = []
  symbols_in_term (name x) = []
  symbols_in_term (call f ts) = (false, f) ∷ symbols_in_terms ts
  symbols_in_term (minus t) = symbols_in_term t
  symbols_in_term (total ts) = symbols_in_terms ts
  symbols_in_term (product s t) = symbols_in_term s ++ symbols_in_term t
  symbols_in_term (choice f s t) = symbols_in f ++ (symbols_in_term s ++ symbols_in_term t)
  symbols_in_term (absolute t) = symbols_in_term t
  symbols_in_term (lesser s t) = symbols_in_term s ++ symbols_in_term t
  symbols_in_term (greater s t) = symbols_in_term s ++ symbols_in_term t

  pub symbols_in_terms : Expressions → List (Bool × ℕ)
  symbols_in_terms no_expression = []
  symbols_in_terms (and_expression t ts) = symbols_in_term t ++ symbols_in_terms ts

-- the two are one symbol
abbrev pub is_symbol : (Bool × ℕ) → (Bool × ℕ) → Bool
is_symbol a b = beq a.0 b.0 && nat_eq a.1 b.1

-- the symbol stands in the formula
abbrev pub uses : Formula → (Bool × ℕ) → Bool
uses f a = list_any (is_symbol a) (symbols_in f)

-- each symbol of the first formula stands in the second
abbrev pub is_within : Formula → Formula → Bool
is_within f g = list_all (uses g) (symbols_in f)

-- there is no symbol
abbrev pub is_empty : List (Bool × ℕ) → Bool
is_empty [] = true
is_empty (a ∷ more) = false
