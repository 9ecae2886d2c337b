-- The scope in which some existential constants alone are declared.
use Rattle.std.proofs.Common.{◌≡◌, ℕ, List, [], ◌∷◌, map, Option, None, refl, sym, ap, ◌∙◌, append-nil}
use Rattle.pri_reader.specs.declared.tree.Declared.{Declared}
use Rattle.pri_reader.specs.declared.tree.Block.TheVariants as block
use Rattle.pri_typing.specs.declared.declaration.Declaration.{Declaration}
use Rattle.pri_typing.specs.declared.declaration.Kind.TheVariants.{Existential}
use Rattle.pri_typing.specs.declared.problem.TypeRefusal.{TypeRefusal}
use Rattle.pri_typing.specs.declared.scope.Category.TheVariants.{Term}
use Rattle.pri_typing.specs.Faults.{faults, least}
use Rattle.pri_typing.specs.Phrase.{Phrase, first_token}
use Rattle.pri_typing.specs.Problems.{unplaced}
use Rattle.pri_typing.specs.Scope.{Scope, declaration, declarations}
use Rattle.pri_typing.specs.Terms.{as_declared, constants_scope}
use Rattle.pri_typing.proofs.Least.{least-none}

declares : (constants : List (List ℕ)) → map (λ (n : Declared). declaration Existential n.name) (map as_declared constants) ≡ map (unplaced Existential) constants
declares [] = refl
declares (c ∷ cs) = ap (λ z. unplaced Existential c ∷ z) (declares cs)

pub block_declares : (constants : List (List ℕ)) (names : List Declared) → names ≡ map as_declared constants
    → declarations (block.Existentials 0 names ∷ []) ≡ map (unplaced Existential) constants
block_declares constants names is =
    append-nil (map (λ (n : Declared). declaration Existential n.name) names)
    ∙ ap (map (λ (n : Declared). declaration Existential n.name)) is ∙ declares constants

-- where these symbols and parts are declared, and nothing is bound
abbrev pub unbound : List Declaration → List (List ℕ) → Scope
unbound ds parts = record { declared = ds; parts = parts; bound = [] }

pub scope_is : (constants : List (List ℕ)) (ds : List Declaration) (parts : List (List ℕ)) → ds ≡ map (unplaced Existential) constants → parts ≡ []
    → unbound ds parts ≡ constants_scope constants
scope_is constants ds parts are none = λ i. record { declared = are i; parts = none i; bound = [] }

-- where none is found, there is none
pub no_fault : (constants : List (List ℕ)) (ds : List Declaration) (parts : List (List ℕ)) (p : Phrase) (r : Option TypeRefusal) → unbound ds parts ≡ constants_scope constants
    → r ≡ least (faults (unbound ds parts) Term (first_token p) p) → r ≡ None → faults (constants_scope constants) Term (first_token p) p ≡ []
no_fault constants ds parts p r same found none =
    least-none (faults (constants_scope constants) Term (first_token p) p)
    (ap (λ z. least (faults z Term (first_token p) p)) (sym same) ∙ sym found ∙ none)
