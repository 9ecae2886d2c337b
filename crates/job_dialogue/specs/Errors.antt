-- The line of an error.
use Rattle.std.specs.Prelude.{ℕ, List, [], ◌++◌, codes}
use Rattle.std.specs.Fmt.{decimal}
use Rattle.smt_commands.specs.declared.refusal.ScriptRefusal.{ScriptRefusal}
use Rattle.smt_commands.specs.declared.refusal.ScriptRefusal.TheVariants as r
use Rattle.job_dialogue.specs.declared.spots.Spot.{Spot}

-- what is said of a refusal
abbrev pub sentence : ScriptRefusal → List ℕ
sentence (r.Syntax at) = codes "no command goes on like this, or it ends too early"
sentence (r.Literal at) = codes "a numeral above 2^127 - 1"
sentence (r.Deep at) = codes "more than 200 lists within each other, or more than 10000 levels"
sentence (r.Undeclared at) = codes "a symbol that nothing in force declares or defines"
sentence (r.Redeclared at) = codes "a symbol that is declared already, or the name of an operator"
sentence (r.Arity at) = codes "a wrong number of arguments"
sentence (r.Kind at) = codes "a term of the wrong sort"
sentence (r.NonLinear at) = codes "a product of two terms that are not built of numerals"
sentence (r.Many at) = codes "more than 1000 declared symbols in force"
sentence r.Large = codes "too many nodes or levels"
sentence (r.Profile at) = codes "not supported, or more levels are left than are open"
sentence r.Memory = []

abbrev pub error_line : Spot → ScriptRefusal → List ℕ
error_line s e = codes "(error \"line " ++ (decimal s.line ++ (codes ", column " ++ (decimal s.column ++ (codes ": " ++ (sentence e ++ codes "\")\n")))))
