-- What the lists of a script are read as, before its commands are judged.
use Rattle.std.specs.Prelude.{List, map}
use Rattle.smt_lists.specs.declared.tree.Sexp.{Sexp}
use Rattle.smt_lists.specs.Expressions.{Expr, expr}
use Rattle.smt_shorthand.specs.Writing.{written_out}
use Rattle.smt_division.specs.Commands.{undivided_script}

-- the commands, where those that are short for others are written out, and division is taken away
abbrev pub read_as : List Sexp → List Expr
read_as lists = undivided_script (written_out (map expr lists))
