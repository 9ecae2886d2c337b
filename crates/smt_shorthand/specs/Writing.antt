-- The commands of a script, where those that are short for others are written out.
use Rattle.std.specs.Prelude.{◌||◌, Bool, List}
use Rattle.smt_lists.specs.Expressions.{Expr}
use Rattle.smt_shorthand.specs.Defining.{defines_sort, sorts_written_out}
use Rattle.smt_shorthand.specs.Functions.{defines_function, functions_written_out}

-- the command begins as one that is short for others
abbrev pub is_short : Expr → Bool
is_short e = defines_sort e || defines_function e

-- first the defined sorts, then the recursive definitions
abbrev pub written_out : List Expr → List Expr
written_out es = functions_written_out (sorts_written_out es)
