-- The problem of a check, and what it says of the assertions.
use Rattle.std.specs.Prelude.{◌≡◌, ℤ, List, [], None, length}
use Rattle.form_typed.specs.Formula.{formula}
use Rattle.form_typed.specs.Truth.{Meaning}
use Rattle.pri_typing.specs.declared.problem.Problem.{Problem}
use Rattle.pri_typing.specs.Files.{all_int}
use Rattle.pri_typing.specs.Problems.{Finite, Holds, IsRefuted, finite_meaning}
use Rattle.smt_terms.specs.Scripts.{Command, IsSatisfied, State, refutation}
use Rattle.smt_reader.specs.Commands.{state_of}
use Rattle.smt_reader.specs.Formed.{symbols}

-- Its universal constants are the Int constants of the check, its functions and predicates the other symbols, and its formula
-- is the negation of the conjunction of all assertions; all else is empty.
pub record IsCheckPosed (s : State) (p : Problem) : Type 0 where
  pub existentials : p.existentials ≡ []
  pub existential_types : p.existential_types ≡ []
  pub universals : p.universals ≡ s.constants
  pub universal_types : p.universal_types ≡ all_int s.constants
  pub functions : p.functions ≡ symbols s.functions
  pub predicates : p.predicates ≡ symbols s.predicates
  pub parts : p.parts ≡ []
  pub formula : formula p.formula ≡ refutation s
  pub cuts : p.cuts ≡ []
  pub first_application : p.first_application ≡ None

-- where the problem of a question holds in an interpretation, no integers of the constants satisfy its assertions there
abbrev pub MeansUnsatisfiable : List Command → Problem → Type 0
MeansUnsatisfiable cs p = IsCheckPosed (state_of cs) p → (w : Meaning) → Holds w p [] → (u : List ℤ) → length u ≡ length (state_of cs).constants → ¬ (IsSatisfied w u (state_of cs))

-- a finite interpretation and integers of the constants that satisfy the assertions
pub record IsSatisfiable (s : State) : Type 0 where
  pub interpretation : Finite
  pub constants : List ℤ
  pub fit : length constants ≡ length s.constants
  pub satisfies : IsSatisfied (finite_meaning interpretation) constants s

-- where it is refuted, there are such
abbrev pub MeansSatisfiable : List Command → Problem → Type 0
MeansSatisfiable cs p = IsCheckPosed (state_of cs) p → IsRefuted p → IsSatisfiable (state_of cs)
