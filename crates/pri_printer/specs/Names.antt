-- The names that a disjunctive normal form and a formula speak of.
use Rattle.std.specs.Prelude.{ℕ, ℤ, ◌<◌, ◌≤◌, ◌≡◌, true, List, [], ◌∷◌, ◌⊎◌}
use Rattle.std.specs.List.{list_any}
use Rattle.form_typed.specs.Formula.{Formula, Expression, name, call}
use Rattle.pri_typing.specs.Everywhere.{Everywhere}
use Rattle.pri_typing.specs.Problems.{IsNoPredicate}
use Rattle.clause_set.specs.declared.literal.Literal.{Literal}
use Rattle.clause_set.specs.Literals.{term_of}
use Rattle.clause_set.specs.Names.{has}

abbrev pub IsVariableBelow : ℕ → ℕ → Type 0
IsVariableBelow n x = x < n

-- each name of the pairs is P
abbrev pub PairNames : (ℕ → Type 0) → List (ℕ × ℤ) → Type 0
PairNames P [] = Unit {0}
PairNames P (p ∷ ps) = P p.0 × PairNames P ps

-- each name of the literal is P
abbrev pub LiteralNames : (ℕ → Type 0) → Literal → Type 0
LiteralNames P l = PairNames P (term_of l).pairs

-- each name of the clause is P
abbrev pub ClauseNames : (ℕ → Type 0) → List Literal → Type 0
ClauseNames P [] = Unit {0}
ClauseNames P (l ∷ ls) = LiteralNames P l × ClauseNames P ls

-- each name of the clauses is P
abbrev pub DnfNames : (ℕ → Type 0) → List (List Literal) → Type 0
DnfNames P [] = Unit {0}
DnfNames P (c ∷ cs) = ClauseNames P c × DnfNames P cs

-- the name x occurs in the clauses
abbrev pub OccursIn : List (List Literal) → ℕ → Type 0
OccursIn d x = list_any (list_any (has x)) d ≡ true

-- a name is P or, as that of a bound variable, at n or above
abbrev pub HasNamesIn : (ℕ → Type 0) → ℕ → Expression → Type 0
HasNamesIn P n (name x) = P x ⊎ (n ≤ x)
HasNamesIn P n (call f ts) = ⊥
HasNamesIn P n _ = Unit {0}

-- the formula has no application, and each of its names below n is P
abbrev pub SpeaksOf : (ℕ → Type 0) → ℕ → Formula → Type 0
SpeaksOf P n = Everywhere (record { of_formula = IsNoPredicate; of_term = λ depth. HasNamesIn P n }) 0
