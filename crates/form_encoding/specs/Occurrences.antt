-- The names that stand in a formula.
use Rattle.std.specs.Prelude.{ℕ, Bool, nat_eq, List, [], ◌∷◌, ◌++◌}
use Rattle.std.specs.List.{list_any}
use Rattle.form_typed.specs.Formula.{Formula, Formulas, Expression, Expressions, constant, compares, applies, negation, every, some, implies, iff, for_all, for_some, part, no_formula, and_formula, number, name, call, minus, total, product, choice, absolute, lesser, greater, no_expression, and_expression}

abbrev mutual
  -- the names that stand in a formula, those of bound variables among them
  pub names_in : Formula → List ℕ
  names_in (constant b) = []
  names_in (compares r s t) = names_in_term s ++ names_in_term t
  names_in (applies p ts) = names_in_terms ts
  names_in (negation f) = names_in f
  names_in (every fs) = names_in_all fs
  names_in (some fs) = names_in_all fs
  names_in (implies f g) = names_in f ++ names_in g
  names_in (iff f g) = names_in f ++ names_in g
  names_in (for_all s f) = names_in f
  names_in (for_some s f) = names_in f
  names_in (part k f) = names_in f

  pub names_in_all : Formulas → List ℕ
  names_in_all no_formula = []
  names_in_all (and_formula f fs) = names_in f ++ names_in_all fs

  pub names_in_term : Expression → List ℕ
  names_in_term (number v) = []
  names_in_term (name x) = x ∷ []
  names_in_term (call f ts) = names_in_terms ts
  names_in_term (minus t) = names_in_term t
  names_in_term (total ts) = names_in_terms ts
  names_in_term (product s t) = names_in_term s ++ names_in_term t
  names_in_term (choice f s t) = names_in f ++ (names_in_term s ++ names_in_term t)
  names_in_term (absolute t) = names_in_term t
  names_in_term (lesser s t) = names_in_term s ++ names_in_term t
  names_in_term (greater s t) = names_in_term s ++ names_in_term t

  pub names_in_terms : Expressions → List ℕ
  names_in_terms no_expression = []
  names_in_terms (and_expression t ts) = names_in_term t ++ names_in_terms ts

-- x stands in the formula
abbrev pub occurs : ℕ → Formula → Bool
occurs x f = list_any (nat_eq x) (names_in f)
