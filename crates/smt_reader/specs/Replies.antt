-- What a script asks to be told, command by command (SMT-LIB 2.6, section 4.2): the answers to its checks, a model and values there, why
-- an answer is unknown, and what other commands say whatever comes before them. Where the assertions or the symbols change, there is no model until the next check
-- (figure 4.1 of the standard).
use Rattle.std.specs.Prelude.{ℕ, List, [], ◌∷◌, ◌++◌, codes, Option, Some, None}
use Rattle.smt_lists.specs.Expressions.{Expr}
use Rattle.smt_commands.specs.Commands.{CommandForm, Saying, say, check_sat, exit, echoed, program, authors, after_error, unsupported, skip, declare, define, assert, push, pop, reset, the_model, the_reason, the_values, version}
use Rattle.smt_commands.specs.Faults.{form}
use Rattle.smt_reader.specs.declared.replies.Reply.{Reply}
use Rattle.smt_reader.specs.declared.replies.Reply.TheVariants as r

-- the line of what a command says, if it does not speak of the last check
abbrev pub said_line : Saying → List ℕ
said_line (echoed text) = codes "\"" ++ text ++ codes "\"\n"
said_line program = codes "(:name \"princess\")\n"
said_line version = codes "(:version \"0.9.0\")\n"
said_line authors = codes "(:authors \"the authors of princess\")\n"
said_line after_error = codes "(:error-behavior immediate-exit)\n"
said_line unsupported = codes "unsupported\n"
said_line the_reason = []
said_line the_model = []
said_line (the_values xs) = []

-- what is asked where a command says something
abbrev pub reply_to : Saying → Reply
reply_to the_reason = r.Reason
reply_to the_model = r.Model
reply_to (the_values xs) = r.Values xs
reply_to x = r.Says (said_line x)

-- what a command asks to be told
abbrev pub reply_of : CommandForm → Option Reply
reply_of (check_sat ts) = Some r.Check
reply_of (say x) = Some (reply_to x)
reply_of skip = None
reply_of exit = None
reply_of _ = Some r.Change

-- a reply before others, where there is one
abbrev pub with_reply : Option Reply → List Reply → List Reply
with_reply None later = later
with_reply (Some one) later = one ∷ later

-- that of a command before those of the commands after it; nothing comes after an `exit`
abbrev pub replies_behind : Option CommandForm → List Reply → List Reply
replies_behind None later = later
replies_behind (Some exit) later = []
replies_behind (Some c) later = with_reply (reply_of c) later

-- what the commands of a script ask to be told, in order
abbrev pub replies : List Expr → List Reply
replies [] = []
replies (e ∷ es) = replies_behind (form e) (replies es)
