-- What the commands of the code are.
use Rattle.std.specs.Prelude.{ℕ, List, map}
use Rattle.std.specs.Borrow.{Bor}
use Rattle.smt_lists.specs.declared.tree.Sexp.{Sexp}
use Rattle.smt_lists.specs.Expressions.{Expr, expr}
use Rattle.smt_commands.specs.declared.expressions.Name.{Name}
use Rattle.smt_commands.specs.declared.saying.Saying.{Saying}
use Rattle.smt_commands.specs.declared.saying.Saying.TheVariants as says
use Rattle.smt_commands.specs.declared.command.Command.{Command}
use Rattle.smt_commands.specs.declared.command.Command.TheVariants as c
use Rattle.smt_commands.specs.Commands as said
use Rattle.smt_commands.specs.Commands.{Symbol, CommandForm, skip, say, declare, define, assert, check_sat, push, pop, reset, exit}

-- the symbol that a name is
abbrev pub symbol_is : Name → Symbol
symbol_is x = record { at = x.at; text = x.text.now }

-- the S-expressions that lent ones are
abbrev pub items_of : Bor (List Sexp) → List Expr
items_of es = map expr es.now

-- the bytes that are lent
abbrev pub now_of : Bor (List ℕ) → List ℕ
now_of text = text.now

-- what is said
abbrev pub saying_of : Saying → said.Saying
saying_of (says.Echoed text) = said.echoed text.now
saying_of says.Program = said.program
saying_of says.Version = said.version
saying_of says.Authors = said.authors
saying_of says.AfterError = said.after_error
saying_of says.Unsupported = said.unsupported
saying_of says.Reason = said.the_reason
saying_of says.Model = said.the_model
saying_of (says.Values ts) = said.the_values (map said.text_of (map expr ts.now))

-- what a command is
abbrev pub form_of : Command → CommandForm
form_of c.Skip = skip
form_of (c.Say x) = say (saying_of x)
form_of (c.Declare x sorts s) = declare (symbol_is x) (map expr sorts.now) (expr s.now)
form_of (c.Define f arguments s t) = define (symbol_is f) (map expr arguments.now) (expr s.now) (expr t.now)
form_of (c.Assert t) = assert (expr t.now)
form_of (c.CheckSat ts) = check_sat (map expr ts.now)
form_of (c.Push n) = push n
form_of (c.Pop n) = pop n
form_of c.Reset = reset
form_of c.Exit = exit
