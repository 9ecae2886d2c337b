-- The symbols of a problem.
use Rattle.pri_typing.specs.declared.problem.Symbol.{Symbol}
use Rattle.std.specs.Prelude.{List}
use Rattle.model_trees.specs.Symbols.{Vocabulary}
use Rattle.pri_typing.specs.WellFormed.{HasArity}

-- these predicates and functions, with the arguments that they are declared with
abbrev pub vocabulary : List Symbol → List Symbol → Vocabulary
vocabulary predicates functions = record { predicate = HasArity predicates; function = HasArity functions }
