-- Which problems are well formed.
use Rattle.std.specs.Prelude.{ℕ, suc, ◌+◌, ◌<◌, ◌≤◌, ◌≡◌, Bool, true, false, ◌&&◌, ◌||◌, not, List, [], ◌∷◌, ◌++◌, length, map, slice_get, nat_eq, Some}
use Rattle.std.specs.List.{All, Contains, IsDistinct, flat_map, concat}
use Rattle.linear_term.specs.Range.{InRange}
use Rattle.pri_tokens.specs.Written.{IsIdentifier}
use Rattle.form_typed.specs.Formula.{Formula, Formulas, Expression, Expressions, formula, constant, applies, negation, every, some, implies, for_all, for_some, part, no_formula, and_formula, number, name, call, minus, total, product, no_expression, and_expression}
use Rattle.form_typed.specs.Sorts.{IsSortRanged}
use Rattle.form_typed.specs.declared.typed.Sort.{Sort}
use Rattle.pri_typing.specs.declared.problem.Problem.{Problem}
use Rattle.pri_typing.specs.declared.problem.Symbol.{Symbol}
use Rattle.pri_typing.specs.declared.problem.Cut.{Cut}
use Rattle.pri_typing.specs.Everywhere.{Property, Everywhere}
use Rattle.base_limits.specs.Limits.{most_symbols}
use Rattle.base_texts.specs.Texts.{is_text}

-- Numbers, names, applications, sums, products and parts.

-- how many there are
abbrev pub size : Expressions → ℕ
size no_expression = 0
size (and_expression t ts) = suc (size ts)

-- k is the number of a symbol with n arguments
abbrev pub HasArity : List Symbol → ℕ → ℕ → Type 0
HasArity symbols k n = slice_get (map (λ y. y.arity) symbols) k ≡ Some n

-- numbers, sums, minus and products alone
abbrev mutual
  pub is_numeric : Expression → Bool
  is_numeric (number v) = true
  is_numeric (minus t) = is_numeric t
  is_numeric (total ts) = are_numeric ts
  is_numeric (product s t) = is_numeric s && is_numeric t
  is_numeric _ = false

  pub are_numeric : Expressions → Bool
  are_numeric no_expression = true
  are_numeric (and_expression t ts) = is_numeric t && are_numeric ts

abbrev pub of_formulas : (ℕ → Formula → Type 0) → Property
of_formulas P = record { of_formula = P; of_term = λ n t. Unit {0} }

abbrev pub of_terms : (ℕ → Expression → Type 0) → Property
of_terms P = record { of_formula = λ n f. Unit {0}; of_term = P }

-- a number is in the range of coefficients
abbrev pub IsNumberRanged : ℕ → Expression → Type 0
IsNumberRanged n (number v) = InRange v
IsNumberRanged n _ = Unit {0}

-- a name is below the number of constants and of the binders around it
abbrev pub IsNameBelow : ℕ → ℕ → Expression → Type 0
IsNameBelow constants n (name x) = x < constants + n
IsNameBelow constants n _ = Unit {0}

-- a predicate is declared with this many arguments
abbrev pub IsPredicateDeclared : List Symbol → ℕ → Formula → Type 0
IsPredicateDeclared predicates n (applies p ts) = HasArity predicates p (size ts)
IsPredicateDeclared predicates n _ = Unit {0}

-- a function is declared with this many arguments, of which there is at least one
abbrev pub IsFunctionDeclared : List Symbol → ℕ → Expression → Type 0
IsFunctionDeclared functions n (call f ts) = HasArity functions f (size ts) × (1 ≤ size ts)
IsFunctionDeclared functions n _ = Unit {0}

-- a sum has a member
abbrev pub HasMember : ℕ → Expression → Type 0
HasMember n (total ts) = 1 ≤ size ts
HasMember n _ = Unit {0}

-- a product has a side without names, applications, conditions, absolute values, minima and maxima
abbrev pub IsLinear : ℕ → Expression → Type 0
IsLinear n (product s t) = (is_numeric s || is_numeric t) ≡ true
IsLinear n _ = Unit {0}

-- a part is below the number of parts
abbrev pub IsPartBelow : ℕ → ℕ → Formula → Type 0
IsPartBelow parts n (part k f) = k < parts
IsPartBelow parts n _ = Unit {0}

-- the bounds of a bound variable's type are coefficients
abbrev pub IsBinderRanged : ℕ → Formula → Type 0
IsBinderRanged n (for_all s f) = IsSortRanged s
IsBinderRanged n (for_some s f) = IsSortRanged s
IsBinderRanged n _ = Unit {0}

-- as many types as names, and their bounds are coefficients
pub record AreTypesOf (names : List (List ℕ)) (types : List Sort) : Type 0 where
  pub many : length types ≡ length names
  pub ranged : All IsSortRanged types

-- Components.

-- a formula with its sign, true for plus
pub record SignedFormula : Type 0 where
  pub plus : Bool
  pub what : Formula

abbrev mutual
  -- the components of a formula that stands with this sign
  pub formula_components : Bool → Formula → List SignedFormula
  formula_components plus (negation f) = formula_components (not plus) f
  formula_components true (implies f g) = formula_components false f ++ formula_components true g
  formula_components true (some fs) = all_formula_components true fs
  formula_components false (every fs) = all_formula_components false fs
  formula_components plus f = (record { plus = plus; what = f }) ∷ []

  pub all_formula_components : Bool → Formulas → List SignedFormula
  all_formula_components plus no_formula = []
  all_formula_components plus (and_formula f fs) = formula_components plus f ++ all_formula_components plus fs

-- the components of a problem
abbrev pub components_of : Problem → List SignedFormula
components_of p = formula_components true (formula p.formula)

abbrev pub IsNoPart : ℕ → Formula → Type 0
IsNoPart n (part k f) = ⊥
IsNoPart n _ = Unit {0}

-- a part with no part inside, or a truth
abbrev pub IsPartOrTruth : Formula → Type 0
IsPartOrTruth (part k f) = Everywhere (of_formulas IsNoPart) 0 f
IsPartOrTruth (constant b) = Unit {0}
IsPartOrTruth _ = ⊥

-- the number of a component that is a part
abbrev pub part_number : Formula → List ℕ
part_number (part k f) = k ∷ []
part_number _ = []

abbrev pub part_numbers : List SignedFormula → List ℕ
part_numbers = flat_map (λ c. part_number c.what)

-- Well-formed problems.

-- the sets of a cut give each of this many parts to one set, and none is empty
pub record IsDivision (parts : ℕ) (cut : Cut) : Type 0 where
  pub several : 2 ≤ length cut.sets
  pub filled : All (λ set. 1 ≤ length set) cut.sets
  pub below : All (λ k. k < parts) (concat cut.sets)
  pub whole : (k : ℕ) → k < parts → Contains (concat cut.sets) k
  pub once : IsDistinct nat_eq (concat cut.sets)

-- the formula of a problem that has cuts is put together of parts and truths, and no part is missing
pub record IsDivisible (p : Problem) : Type 0 where
  pub parts_are_components : All (λ c. IsPartOrTruth c.what) (components_of p)
  pub each_part : (k : ℕ) → k < length p.parts → Contains (part_numbers (components_of p)) k

-- The problem declares at most 1,000 symbols. Its numbers are in the range. Its names are constants and bound variables. Its
-- predicates and functions are declared, with this many arguments. Its sums have members, and its products are linear. Its
-- constants and bound variables have types with bounds in the range. Its parts have names. Where it has cuts, they divide
-- the parts of which its formula is put together.
pub record IsWellFormed (p : Problem) : Type 0 where
  pub few : length p.existentials + length p.universals + length p.functions + length p.predicates ≤ most_symbols
  pub numbers : Everywhere (of_terms IsNumberRanged) 0 (formula p.formula)
  pub names : Everywhere (of_terms (IsNameBelow (length p.existentials + length p.universals))) 0 (formula p.formula)
  pub predicates : Everywhere (of_formulas (IsPredicateDeclared p.predicates)) 0 (formula p.formula)
  pub functions : Everywhere (of_terms (IsFunctionDeclared p.functions)) 0 (formula p.formula)
  pub sums : Everywhere (of_terms HasMember) 0 (formula p.formula)
  pub products : Everywhere (of_terms IsLinear) 0 (formula p.formula)
  pub binders : Everywhere (of_formulas IsBinderRanged) 0 (formula p.formula)
  pub existential_types : AreTypesOf p.existentials p.existential_types
  pub universal_types : AreTypesOf p.universals p.universal_types
  pub parts : Everywhere (of_formulas (IsPartBelow (length p.parts))) 0 (formula p.formula)
  pub divisible : 1 ≤ length p.cuts → IsDivisible p
  pub divided : All (IsDivision (length p.parts)) p.cuts

-- Names.

-- the names of all symbols
abbrev pub names_of_symbols : Problem → List (List ℕ)
names_of_symbols p = p.existentials ++ p.universals ++ map (λ y. y.name) p.functions ++ map (λ y. y.name) p.predicates

-- no two symbols have one name
abbrev pub HasDistinctNames : Problem → Type 0
HasDistinctNames p = IsDistinct is_text (names_of_symbols p)

-- the names of all symbols are identifiers
abbrev pub HasIdentifiers : Problem → Type 0
HasIdentifiers p = All IsIdentifier (names_of_symbols p)
