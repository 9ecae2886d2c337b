-- All faults of a script.
use Rattle.std.specs.Prelude.{List, [], ◌∷◌, ◌++◌, Option, Some}
use Rattle.smt_lists.specs.Expressions.{Expr, place_of}
use Rattle.smt_commands.specs.declared.refusal.ScriptRefusal.{ScriptRefusal}
use Rattle.smt_commands.specs.declared.table.Entry.{Entry}
use Rattle.smt_commands.specs.Commands.{CommandForm, exit}
use Rattle.smt_commands.specs.Levels.{Levels}
use Rattle.smt_commands.specs.Faults.{TermFaults, behind, command_faults, form}

-- what comes after a command, unless that ends the script
abbrev pub unless_end : Option CommandForm → List ScriptRefusal → List ScriptRefusal
unless_end (Some exit) later = []
unless_end _ later = later

-- the faults of all commands up to an `exit`, each after the symbols of those before it
abbrev pub all_faults : TermFaults → Levels (List Entry) → List Expr → List ScriptRefusal
all_faults terms l [] = []
all_faults terms l (e ∷ es) = command_faults terms l (place_of e) (form e) ++ unless_end (form e) (all_faults terms (behind l (form e)) es)
