-- The definitions of a response, and the value of a symbol that is defined so.
use Rattle.std.specs.Prelude.{◌≡◌, ℕ, zero, suc, ℤ, List, [], ◌∷◌, length, Option}
use Rattle.std.specs.List.{AllByRecursion}
use Rattle.std.specs.Option.{IfSome}
use Rattle.form_typed.specs.Truth.{Meaning}
use Rattle.model_table.specs.declared.model.FunctionModel.{FunctionModel}
use Rattle.model_table.specs.declared.model.PredicateModel.{PredicateModel}
use Rattle.pri_typing.specs.declared.problem.Symbol.{Symbol}
use Rattle.smt_terms.specs.Evaluation.{Globals, MeantHas, SymbolHas, defined_by}
use Rattle.smt_terms.specs.Operators.{Value}
use Rattle.smt_terms.specs.Term.{PlacedTerm}
use Rattle.smt_terms.specs.declared.operator.Sort.{Sort}
use Rattle.smt_models.specs.Terms.{argument}

-- the names of this many parameters, from number k on
abbrev pub parameters : ℕ → ℕ → List (List ℕ)
parameters k zero = []
parameters k (suc n) = argument k ∷ parameters (suc k) n

-- `define-fun`: a symbol, how many parameters of the sort Int it has, its sort, and its body
pub record Definition : Type 0 where
  pub name : List ℕ
  pub arity : ℕ
  pub sort : Sort
  pub body : PlacedTerm

-- the rows of the table, if there is one, are at as many integers as the symbol has arguments
abbrev pub TakesValues : Symbol → Option FunctionModel → Type 0
TakesValues y o = IfSome o (λ t. AllByRecursion (λ r. length r.at ≡ y.arity) t.rows)

abbrev pub TakesTruths : Symbol → Option PredicateModel → Type 0
TakesTruths y o = IfSome o (λ t. AllByRecursion (λ r. length r.at ≡ y.arity) t.rows)

-- the symbol has the value v at these values of its parameters, whatever the symbols before it mean
abbrev pub HasAt : Definition → List Value → Value → Type 0
HasAt d vs v = (w : Meaning) (u : List ℤ) (gs : Globals) → MeantHas w u (SymbolHas w u gs) (defined_by (parameters 0 d.arity) d.body) vs (λ x. x ≡ v)
