-- What an expression says where some constants alone are declared.
use Rattle.std.specs.Prelude.{ℕ, ◌≡◌, List, [], map, Option, Some, None}
use Rattle.pri_reader.specs.declared.tree.Declared.{Declared}
use Rattle.pri_reader.specs.declared.tree.TypeName.TheVariants as type
use Rattle.form_typed.specs.declared.typed.TypedTerm.{TypedTerm}
use Rattle.form_typed.specs.Formula.{Expression, expression}
use Rattle.pri_typing.specs.declared.declaration.Kind.TheVariants.{Existential}
use Rattle.pri_typing.specs.declared.scope.Category.TheVariants as category
use Rattle.pri_typing.specs.Phrase.{Phrase, first_token}
use Rattle.pri_typing.specs.Scope.{Scope}
use Rattle.pri_typing.specs.Faults.{faults}
use Rattle.pri_typing.specs.Problems.{unplaced}
use Rattle.pri_typing.specs.Typing.{value}

-- a constant as a block declares it; its type plays no part in what an expression says
abbrev pub as_declared : List ℕ → Declared
as_declared text = record { sort = type.Int; name = record { at = 0; text = text } }

-- where these existential constants alone are declared, and nothing is bound
abbrev pub constants_scope : List (List ℕ) → Scope
constants_scope constants = record { declared = map (unplaced Existential) constants; parts = []; bound = [] }

-- typing finds no fault in the phrase as a term of these constants, and it is this term
pub record IsTermOf (constants : List (List ℕ)) (p : Phrase) (x : Expression) : Type 0 where
  pub faultless : faults (constants_scope constants) category.Term (first_token p) p ≡ []
  pub is : x ≡ value (constants_scope constants) p

-- the phrase is this term of the constants; or it is none
abbrev pub IsTypedTerm : List (List ℕ) → Phrase → Option TypedTerm → Type 0
IsTypedTerm constants p (Some t) = IsTermOf constants p (expression t)
IsTypedTerm constants p None = ¬ (faults (constants_scope constants) category.Term (first_token p) p ≡ [])
