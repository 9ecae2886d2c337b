-- The types of constants and of bound names, as a file writes them.
use Rattle.std.specs.Prelude.{zero, suc, Option, Some, None, List, [], map}
use Rattle.std.specs.List.{filter_map}
use Rattle.pri_reader.specs.declared.tree.TypeName.{TypeName}
use Rattle.pri_reader.specs.declared.tree.TypeName.TheVariants as type
use Rattle.pri_reader.specs.declared.tree.Declared.{Declared}
use Rattle.pri_reader.specs.declared.tree.Item.{Item}
use Rattle.pri_reader.specs.declared.tree.Block.{Block}
use Rattle.pri_reader.specs.declared.tree.Block.TheVariants as block
use Rattle.form_typed.specs.declared.typed.Sort.{Sort}
use Rattle.form_typed.specs.declared.typed.Sort.TheVariants as sort

-- the type that is written so
abbrev pub sort_of : TypeName → Sort
sort_of type.Int = sort.Int
sort_of type.Nat = sort.Nat
sort_of (type.Range a b) = sort.Range a b

-- the types of names, in order
abbrev pub sorts_of : List Declared → List Sort
sorts_of = map (λ d. sort_of d.sort)

-- a function without arguments is a constant, of the type int
abbrev pub function_sort : Item → Option Sort
function_sort i = elim i.arity [ zero ↦ Some sort.Int | suc n ↦ None ]

-- the types of the existential constants that a block declares, in the order of their declarations
abbrev pub existential_sorts : Block → List Sort
existential_sorts (block.Existentials at names) = sorts_of names
existential_sorts _ = []

-- the types of the universal constants that a block declares, in the order of their declarations
abbrev pub universal_sorts : Block → List Sort
universal_sorts (block.Universals at names) = sorts_of names
universal_sorts (block.Functions at items) = filter_map function_sort items
universal_sorts _ = []
