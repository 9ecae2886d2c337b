-- What a file declares, and what a name of a formula stands for.
use Rattle.std.specs.Prelude.{ℕ, zero, suc, ◌+◌, List, [], ◌∷◌, ◌++◌, length, map, Option, Some, None, if◌then◌else◌}
use Rattle.std.specs.List.{flat_map, filter_map}
use Rattle.base_texts.specs.Texts.{is_text}
use Rattle.pri_reader.specs.declared.tree.Name.{Name}
use Rattle.pri_reader.specs.declared.tree.Declared.{Declared}
use Rattle.pri_reader.specs.declared.tree.Block.{Block}
use Rattle.pri_reader.specs.declared.tree.Block.TheVariants as block
use Rattle.pri_typing.specs.declared.problem.Symbol.{Symbol}
use Rattle.pri_typing.specs.declared.declaration.Kind.{Kind}
use Rattle.pri_typing.specs.declared.declaration.Kind.TheVariants.{Existential, Universal, Function, Predicate}
use Rattle.pri_typing.specs.declared.declaration.Declaration.{Declaration}
use Rattle.pri_typing.specs.declared.symbols.Entry.{Entry}
use Rattle.pri_typing.specs.declared.scope.Referent.{Referent}
use Rattle.pri_typing.specs.declared.scope.Referent.TheVariants as referent

abbrev pub declaration : Kind → Name → Declaration
declaration kind name = record { at = name.at; text = name.text; kind = kind }

-- a function without arguments is a universal constant
abbrev pub function_kind : ℕ → Kind
function_kind zero = Universal
function_kind (suc n) = Function (suc n)

-- the declarations of a block, in order
abbrev pub declared_by : Block → List Declaration
declared_by (block.Existentials at names) = map (λ n. declaration Existential n.name) names
declared_by (block.Universals at names) = map (λ n. declaration Universal n.name) names
declared_by (block.Functions at items) = map (λ i. declaration (function_kind i.arity) i.name) items
declared_by (block.Predicates at items) = map (λ i. declaration (Predicate i.arity) i.name) items
declared_by _ = []

-- the declarations of a file, in order
abbrev pub declarations : List Block → List Declaration
declarations = flat_map declared_by

-- The symbols of each kind, in the order of their declarations.

abbrev pub existential_text : Declaration → Option (List ℕ)
existential_text d = elim d.kind [ Existential ↦ Some d.text | Universal ↦ None | Function n ↦ None | Predicate n ↦ None ]

abbrev pub universal_text : Declaration → Option (List ℕ)
universal_text d = elim d.kind [ Existential ↦ None | Universal ↦ Some d.text | Function n ↦ None | Predicate n ↦ None ]

abbrev pub function_symbol : Declaration → Option Symbol
function_symbol d = elim d.kind [ Existential ↦ None | Universal ↦ None | Function n ↦ Some (record { name = d.text; arity = n }) | Predicate n ↦ None ]

abbrev pub predicate_symbol : Declaration → Option Symbol
predicate_symbol d = elim d.kind [ Existential ↦ None | Universal ↦ None | Function n ↦ None | Predicate n ↦ Some (record { name = d.text; arity = n }) ]

abbrev pub existentials : List Declaration → List (List ℕ)
existentials = filter_map existential_text

abbrev pub universals : List Declaration → List (List ℕ)
universals = filter_map universal_text

abbrev pub functions : List Declaration → List Symbol
functions = filter_map function_symbol

abbrev pub predicates : List Declaration → List Symbol
predicates = filter_map predicate_symbol

-- Names.

-- how many symbols of this kind are declared
abbrev pub rank : Kind → List Declaration → ℕ
rank Existential ds = length (existentials ds)
rank Universal ds = length (universals ds)
rank (Function n) ds = length (functions ds)
rank (Predicate n) ds = length (predicates ds)

-- a symbol that is declared after others: its kind, and its number among those of its kind
abbrev pub entry : List Declaration → Kind → Entry
entry before kind = record { kind = kind; number = rank kind before }

-- the symbol that the first declaration of a text declares, after those before
abbrev pub declared_from : List Declaration → List ℕ → List Declaration → Option Entry
declared_from before text [] = None
declared_from before text (d ∷ ds) = if is_text text d.text then Some (entry before d.kind) else declared_from (before ++ d ∷ []) text ds

-- where a name is used: the declarations of the file, the names of the parts, and the bound names, the innermost first
pub record Scope : Type 0 where
  pub declared : List Declaration
  pub parts : List (List ℕ)
  pub bound : List (List ℕ)

-- bound names put before those around them
abbrev pub bind : List Declared → List (List ℕ) → List (List ℕ)
bind [] outer = outer
bind (n ∷ names) outer = bind names (n.name.text ∷ outer)

-- the place inside a quantifier
abbrev pub inside : List Declared → Scope → Scope
inside names s = record { declared = s.declared; parts = s.parts; bound = bind names s.bound }

-- the number of the bound variables around the innermost one of this text
abbrev pub depth_of : List ℕ → List (List ℕ) → Option ℕ
depth_of text [] = None
depth_of text (x ∷ outer) = if is_text text x then Some (length outer) else depth_of text outer

-- the number of constants
abbrev pub constants : List Declaration → ℕ
constants ds = length (existentials ds) + length (universals ds)

-- what a symbol stands for: a constant by its number as a name of the problem's formula, existential ones first, and a
-- function or a predicate by its number and its arity
abbrev pub symbol_of : List Declaration → Kind → ℕ → Referent
symbol_of ds Existential x = referent.Name x
symbol_of ds Universal x = referent.Name (length (existentials ds) + x)
symbol_of ds (Function n) f = referent.Function f n
symbol_of ds (Predicate n) p = referent.Predicate p n

abbrev pub bound_or_declared : List Declaration → Option ℕ → Option Entry → Option Referent
bound_or_declared ds (Some depth) declared = Some (referent.Name (constants ds + depth))
bound_or_declared ds None (Some e) = Some (symbol_of ds e.kind e.number)
bound_or_declared ds None None = None

-- the innermost bound variable of that text, else its first declaration, else nothing
abbrev pub refers : Scope → List ℕ → Option Referent
refers s text = bound_or_declared s.declared (depth_of text s.bound) (declared_from [] text s.declared)
