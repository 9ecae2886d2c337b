-- What is so of the formulas of the checks of a script.
use Rattle.std.specs.Prelude.{◌+◌, ◌≤◌, ℕ, List, length, map}
use Rattle.pri_typing.specs.declared.problem.Symbol.{Symbol}
use Rattle.pri_typing.specs.Everywhere.{Property, Everywhere}
use Rattle.base_limits.specs.Limits.{most_symbols}
use Rattle.pri_typing.specs.WellFormed.{HasMember, IsBinderRanged, IsFunctionDeclared, IsLinear, IsNameBelow, IsNumberRanged, IsPartBelow, IsPredicateDeclared}
use Rattle.smt_terms.specs.Scripts.{Declared, State, refutation}

-- all that a well-formed problem without parts asks of each place of its formula
abbrev pub Sound : ℕ → List Symbol → List Symbol → Property
Sound constants functions predicates = record {
  of_formula = λ n f. IsPredicateDeclared predicates n f × IsBinderRanged n f × IsPartBelow 0 n f;
  of_term = λ n t. IsNumberRanged n t × IsNameBelow constants n t × IsFunctionDeclared functions n t × HasMember n t × IsLinear n t;
}

-- a declared symbol as one of a problem
abbrev pub symbol : Declared → Symbol
symbol y = record { name = y.text; arity = y.arity }

abbrev pub symbols : List Declared → List Symbol
symbols = map symbol

-- a check declares few symbols, and its formula is sound everywhere
pub record IsFormedCheck (s : State) : Type 0 where
  pub few : length s.constants + length s.functions + length s.predicates ≤ most_symbols
  pub sound : Everywhere (Sound (length s.constants) (symbols s.functions) (symbols s.predicates)) 0 (refutation s)
