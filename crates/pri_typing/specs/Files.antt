-- The problem that a file poses, and all its faults.
use Rattle.std.specs.Prelude.{ℕ, ◌≡◌, Bool, true, List, [], ◌∷◌, ◌++◌, length, map, nat_eq, nat_lt, if◌then◌else◌}
use Rattle.std.specs.List.{flat_map, list_any}
use Rattle.base_limits.specs.Limits.{most_symbols}
use Rattle.pri_reader.specs.declared.tree.Block.{Block}
use Rattle.pri_reader.specs.declared.tree.Block.TheVariants as block
use Rattle.pri_reader.specs.declared.tree.File.{File}
use Rattle.form_typed.specs.Formula as logic
use Rattle.form_typed.specs.declared.typed.Sort.{Sort}
use Rattle.form_typed.specs.declared.typed.Sort.TheVariants as sort
use Rattle.pri_typing.specs.declared.problem.Problem.{Problem}
use Rattle.pri_typing.specs.declared.problem.TypeRefusal.{TypeRefusal}
use Rattle.pri_typing.specs.declared.problem.TypeRefusal.TheVariants.{Redeclared, Many}
use Rattle.pri_typing.specs.Phrase.{Phrase, truth, phrase, first_token}
use Rattle.pri_typing.specs.declared.declaration.Declaration.{Declaration}
use Rattle.base_texts.specs.Texts.{is_among}
use Rattle.pri_typing.specs.Scope.{declarations, existentials, universals, functions, predicates, Scope}
use Rattle.pri_typing.specs.declared.scope.Category.TheVariants.{Formula}
use Rattle.pri_typing.specs.Faults.{faults}
use Rattle.pri_typing.specs.Parts.{formula_faults, block_faults, is_cut, cuts_in}
use Rattle.pri_typing.specs.Sorts.{existential_sorts, universal_sorts}
use Rattle.pri_typing.specs.Typing.{says, applications, first_of, part_names}

-- the faults of a declaration after this many others, of a name that one of them declares or not
abbrev pub own_faults : Bool → ℕ → ℕ → List TypeRefusal
own_faults known before at = (if known then Redeclared at ∷ [] else []) ++ (if nat_eq before most_symbols then Many at ∷ [] else [])

-- The faults of declarations, after those before: a name that is declared before, and the 1,001st declaration.
abbrev pub declaration_faults : List Declaration → List Declaration → List TypeRefusal
declaration_faults before [] = []
declaration_faults before (d ∷ ds) =
    own_faults (is_among d.text (map (λ b. b.text) before)) (length before) d.at ++ declaration_faults (before ++ d ∷ []) ds

-- the formula of the `\problem` block, of which a file has exactly one
abbrev pub problem_of : List Block → Phrase
problem_of [] = truth 0 true
problem_of (block.Problem at e ∷ blocks) = phrase e
problem_of (_ ∷ blocks) = problem_of blocks

-- where its formula stands
abbrev pub scope_of : List Block → Scope
scope_of blocks = record { declared = declarations blocks; parts = part_names (problem_of blocks); bound = [] }

-- the faults of its parts, where some block asks for a cut, in a file with an existential constant or without
abbrev pub parts_faults : List (List ℕ) → Bool → List Block → Phrase → List TypeRefusal
parts_faults parts existential blocks p =
    if list_any is_cut blocks then formula_faults true p ++ flat_map (block_faults parts existential) blocks else []

-- some constant is existential
abbrev pub has_existential : List Declaration → Bool
has_existential ds = nat_lt 0 (length (existentials ds))

-- all faults of a file: of its declarations, of its formula, and of its parts
abbrev pub file_faults : File → List TypeRefusal
file_faults f =
    declaration_faults [] (declarations f.blocks)
    ++ faults (scope_of f.blocks) Formula (first_token (problem_of f.blocks)) (problem_of f.blocks)
    ++ parts_faults (part_names (problem_of f.blocks)) (has_existential (declarations f.blocks)) f.blocks (problem_of f.blocks)

-- the type `int` for each of these names
abbrev pub all_int : List (List ℕ) → List Sort
all_int names = map (λ name. sort.Int) names

-- the problem that a file without faults poses
pub record IsTyped (f : File) (p : Problem) : Type 0 where
  pub existentials : p.existentials ≡ existentials (declarations f.blocks)
  pub universals : p.universals ≡ universals (declarations f.blocks)
  pub existential_types : p.existential_types ≡ flat_map existential_sorts f.blocks
  pub universal_types : p.universal_types ≡ flat_map universal_sorts f.blocks
  pub functions : p.functions ≡ functions (declarations f.blocks)
  pub predicates : p.predicates ≡ predicates (declarations f.blocks)
  pub parts : p.parts ≡ part_names (problem_of f.blocks)
  pub formula : logic.formula p.formula ≡ says (scope_of f.blocks) (problem_of f.blocks)
  pub cuts : p.cuts ≡ flat_map (cuts_in p.parts) f.blocks
  pub first_application : p.first_application ≡ first_of (applications (scope_of f.blocks) (problem_of f.blocks))
