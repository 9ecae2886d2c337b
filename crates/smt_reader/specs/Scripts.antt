-- Which texts are scripts that are taken, and how others are refused.
use Rattle.std.specs.Prelude.{ℕ, ◌≡◌, List, None, ◌⊎◌}
use Rattle.smt_lists.specs.declared.tree.Sexp.{Sexp}
use Rattle.smt_lists.specs.declared.refusal.ReadRefusal.{ReadRefusal}
use Rattle.smt_lists.specs.declared.refusal.ReadRefusal.TheVariants as e
use Rattle.smt_reader.specs.Read.{read_as}
use Rattle.smt_lists.specs.Grammar.{IsScriptText}
use Rattle.smt_lists.specs.First.{IsFirstListRefusal}
use Rattle.smt_commands.specs.declared.refusal.ScriptRefusal.{ScriptRefusal}
use Rattle.smt_commands.specs.declared.refusal.ScriptRefusal.TheVariants as r
use Rattle.smt_commands.specs.declared.table.Entry.{Entry}
use Rattle.smt_commands.specs.Faults.{TermFaults, refusal_of}
use Rattle.smt_commands.specs.Least.{IsScriptRefused}
use Rattle.smt_typing.specs.Steps.{symbols_of}

-- a refusal of the tokens as one of the script
abbrev pub as_script : ReadRefusal → ScriptRefusal
as_script (e.Syntax at) = r.Syntax at
as_script (e.Deep at) = r.Deep at
as_script e.Memory = r.Memory

-- the text is lists, no command among them has a fault, and these are the symbols that they declare and define
pub record IsTaken (terms : TermFaults) (bytes : List ℕ) (symbols : List Entry) : Type 0 where
  pub lists : List Sexp
  pub said : IsScriptText bytes lists
  pub fits : refusal_of terms (read_as lists) ≡ None
  pub are : symbols ≡ symbols_of (read_as lists)

-- the text is no lists, and this is the first refusal of its tokens
pub record RefusesTokens (bytes : List ℕ) (fault : ScriptRefusal) : Type 0 where
  pub tokens : ReadRefusal
  pub first : IsFirstListRefusal bytes tokens
  pub is : fault ≡ as_script tokens

-- the text is lists, and this is the refusal of its commands
pub record RefusesCommands (terms : TermFaults) (bytes : List ℕ) (fault : ScriptRefusal) : Type 0 where
  pub lists : List Sexp
  pub said : IsScriptText bytes lists
  pub is : IsScriptRefused fault (refusal_of terms (read_as lists))

-- the text is refused so
abbrev pub RefusesScript : TermFaults → List ℕ → ScriptRefusal → Type 0
RefusesScript terms bytes fault = RefusesTokens bytes fault ⊎ RefusesCommands terms bytes fault
