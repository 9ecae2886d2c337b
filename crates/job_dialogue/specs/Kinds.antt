-- What a command does for a dialogue, by its form and its word.
use Rattle.std.specs.Prelude.{ℕ, ◌||◌, ◌&&◌, Bool, true, false, List, [], ◌∷◌, Option, Some, None, codes, if◌then◌else◌}
use Rattle.std.specs.Str.{bytes_eq}
use Rattle.smt_lists.specs.Expressions.{Expr, place_of}
use Rattle.smt_commands.specs.Commands.{CommandForm, Saying, Symbol, skip, say, declare, define, assert, check_sat, push, pop, reset, exit, echoed, program, version, authors, after_error, unsupported, the_reason, the_model, the_values, command_of, keyword_of, members_of, symbol_of}
use Rattle.job_dialogue.specs.declared.kinds.Kind.{Kind}
use Rattle.job_dialogue.specs.declared.kinds.Kind.TheVariants as k
use Rattle.job_dialogue.specs.declared.kinds.Reading.{Reading}

abbrev pub is_symbol : Option Symbol → List ℕ → Bool
is_symbol None text = false
is_symbol (Some x) text = bytes_eq x.text text

abbrev pub is_text : Option (List ℕ) → List ℕ → Bool
is_text None text = false
is_text (Some x) text = bytes_eq x text

-- the first of these is this symbol
abbrev pub begins_with : List Expr → List ℕ → Bool
begins_with [] word = false
begins_with (e ∷ es) word = is_symbol (symbol_of e) word

-- short for declarations, definitions and assertions
abbrev pub is_shorthand : List Expr → Bool
is_shorthand es = begins_with es (codes "define-sort") || begins_with es (codes "define-fun-rec") || begins_with es (codes "define-funs-rec")

abbrev pub success_kind : Option Symbol → Kind
success_kind v = if is_symbol v (codes "true") then k.Succeeds true else (if is_symbol v (codes "false") then k.Succeeds false else k.Says)

-- of a command without effect: `set-option` with `:print-success` says whether commands are answered by `success`
abbrev pub option_kind : List Expr → Kind
option_kind (o ∷ w ∷ v ∷ more) = if is_symbol (symbol_of o) (codes "set-option") && is_text (keyword_of w) (codes ":print-success") then success_kind (symbol_of v) else k.Says
option_kind [] = k.Says
option_kind (o ∷ []) = k.Says
option_kind (o ∷ w ∷ []) = k.Says

-- of a command that only says something: some of what is said speaks of the last check
abbrev pub said_kind : Saying → Kind
said_kind after_error = k.Behaves
said_kind (echoed text) = k.Says
said_kind program = k.Says
said_kind version = k.Says
said_kind authors = k.Says
said_kind unsupported = k.Says
said_kind the_reason = k.Shows
said_kind the_model = k.Shows
said_kind (the_values xs) = k.Shows

abbrev pub kind_by : List Expr → Option CommandForm → Kind
kind_by es None = if is_shorthand es then k.Keeps else k.Says
kind_by es (Some (declare x sorts s)) = k.Keeps
kind_by es (Some (define f arguments s t)) = k.Keeps
kind_by es (Some (assert t)) = k.Keeps
kind_by es (Some (check_sat ts)) = k.Asks
kind_by es (Some (push n)) = k.Opens n
kind_by es (Some (pop n)) = k.Leaves n
kind_by es (Some reset) = k.Restarts
kind_by es (Some exit) = k.Ends
kind_by es (Some (say x)) = said_kind x
kind_by es (Some skip) = option_kind es

-- what a list of these members does
abbrev pub kind_of : List Expr → Kind
kind_of es = kind_by es (command_of es)

abbrev pub reading_by : ℕ → Option (List Expr) → Reading
reading_by at None = record { start = 0; kind = k.Says }
reading_by at (Some es) = record { start = at; kind = kind_of es }

-- where the list of a piece begins, and what it does; where the piece is not one list, the script judges all of it
abbrev pub reading_of : List Expr → Reading
reading_of (e ∷ []) = reading_by (place_of e) (members_of e)
reading_of _ = record { start = 0; kind = k.Says }
