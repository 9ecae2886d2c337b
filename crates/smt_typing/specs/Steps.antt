-- What the walk over commands answers at each of them, and after all.
use Rattle.std.specs.Prelude.{ℕ, ◌≡◌, Bool, true, false, List, [], ◌∷◌, Option, Some, None}
use Rattle.smt_lists.specs.Expressions.{Expr}
use Rattle.smt_commands.specs.declared.refusal.ScriptRefusal.{ScriptRefusal}
use Rattle.smt_commands.specs.declared.table.Entry.{Entry}
use Rattle.smt_commands.specs.Commands.{CommandForm, exit}
use Rattle.smt_commands.specs.Levels.{Levels, lowest}
use Rattle.smt_commands.specs.Faults.{TermFaults, behind, command_faults, form}
use Rattle.smt_commands.specs.Least.{IsScriptRefused, least}

-- the command ends the script
abbrev pub is_exit : Option CommandForm → Bool
is_exit (Some exit) = true
is_exit _ = false

-- what comes of the commands after one; this where it ends the script
abbrev pub unless_last : {A : Type 0} → Option CommandForm → A → A → A
unless_last (Some exit) here later = here
unless_last _ here later = later

-- the symbols that are in force after all commands of a script without faults, after these
abbrev pub symbols_from : Levels (List Entry) → List Expr → List Entry
symbols_from l [] = l.now
symbols_from l (e ∷ es) = unless_last (form e) (behind l (form e)).now (symbols_from (behind l (form e)) es)

-- the symbols of a script without faults
abbrev pub symbols_of : List Expr → List Entry
symbols_of = symbols_from (lowest [])

-- the command has no fault, and these are the symbols after it
pub record PassesCommand (terms : TermFaults) (l : Levels (List Entry)) (at : ℕ) (command : Option CommandForm) (new : Levels (List Entry)) : Type 0 where
  pub fits : least (command_faults terms l at command) ≡ None
  pub symbols : new ≡ behind l command

-- the command is refused so
pub record StopsCommand (terms : TermFaults) (l : Levels (List Entry)) (at : ℕ) (command : Option CommandForm) (e : ScriptRefusal) : Type 0 where
  pub is : IsScriptRefused e (least (command_faults terms l at command))
