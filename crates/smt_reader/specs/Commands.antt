-- What the lists of a script do: they declare, define and assert, ask, and open and leave assertion levels; and which commands are in
-- force at each check (SMT-LIB 2.6, sections 4.1.4 and 4.2.3).
use Rattle.std.specs.Prelude.{ℕ, ◌≤◌, List, [], ◌∷◌, ◌++◌, length, map, Option, Some, None}
use Rattle.smt_lists.specs.Expressions.{Expr}
use Rattle.smt_commands.specs.Commands as form
use Rattle.smt_commands.specs.Commands.{CommandForm}
use Rattle.smt_commands.specs.Faults as faults
use Rattle.smt_commands.specs.Faults.{TermFaults}
use Rattle.smt_commands.specs.Levels.{Levels, lowest, popped, pushed, with_now}
use Rattle.smt_commands.specs.Symbols.{or_int, sort_of}
use Rattle.smt_terms.specs.Scripts.{Command, State, after, declare, define, claim, check, start}
use Rattle.smt_terms.specs.Term.{PlacedTerm}
use Rattle.smt_typing.specs.Faults.{names_in, script_faults, script_uses}
use Rattle.smt_typing.specs.Reading.{phrase_of}

-- the terms of scripts
abbrev pub script_terms : TermFaults
script_terms = record { faults = script_faults; uses = script_uses }

-- what a command does: it declares, defines or asserts; it asks, with some terms assumed; it opens levels, or leaves them; or
-- nothing before it counts any longer
pub data Act : Type 0 where
  does : Command → Act
  asks : List PlacedTerm → Act
  opens : ℕ → Act
  leaves : ℕ → Act
  restarts : Act

-- a command before those after it; nothing comes after an `exit`
abbrev pub with_form : Option CommandForm → List Act → List Act
with_form (Some (form.declare x sorts s)) rest = does (declare x.text (length sorts) (or_int (sort_of s))) ∷ rest
with_form (Some (form.define f arguments s t)) rest = does (define f.text (names_in arguments) (or_int (sort_of s)) (phrase_of t)) ∷ rest
with_form (Some (form.assert t)) rest = does (claim (phrase_of t)) ∷ rest
with_form (Some (form.check_sat ts)) rest = asks (map phrase_of ts) ∷ rest
with_form (Some (form.push n)) rest = opens n ∷ rest
with_form (Some (form.pop n)) rest = leaves n ∷ rest
with_form (Some form.reset) rest = restarts ∷ rest
with_form (Some form.exit) rest = []
with_form (Some form.skip) rest = rest
with_form (Some (form.say x)) rest = rest
with_form None rest = rest

-- a command before others, where it does something
abbrev pub before : Option Act → List Act → List Act
before None rest = rest
before (Some a) rest = a ∷ rest

-- what the commands of a script do
abbrev pub acts_of : List Expr → List Act
acts_of [] = []
acts_of (e ∷ es) = with_form (faults.form e) (acts_of es)

-- the declarations, definitions and assertions that are in force after one command more
abbrev pub in_force : Levels (List Command) → Act → Levels (List Command)
in_force l (does c) = with_now l (l.now ++ c ∷ [])
in_force l (asks ts) = l
in_force l (opens n) = pushed n l
in_force l (leaves n) = popped n l
in_force l restarts = lowest []

-- the question of a check before those after it: the commands in force, and its assumptions as assertions for it alone
abbrev pub with_question : List Command → Act → List (List Command) → List (List Command)
with_question cs (does c) later = later
with_question cs (asks ts) later = (cs ++ map claim ts) ∷ later
with_question cs (opens n) later = later
with_question cs (leaves n) later = later
with_question cs restarts later = later

-- the questions of the checks of a script, after these commands in force
abbrev pub questions_from : Levels (List Command) → List Act → List (List Command)
questions_from l [] = []
questions_from l (a ∷ rest) = with_question l.now a (questions_from (in_force l a) rest)

-- the questions of a script: each is a script without levels
abbrev pub questions : List Act → List (List Command)
questions = questions_from (lowest [])

-- what commands come to, from a state on
abbrev pub all_after : State → List Command → State
all_after s [] = s
all_after s (c ∷ cs) = all_after (after s c) cs

-- what the commands of a question come to
abbrev pub state_of : List Command → State
state_of = all_after start

-- a declared symbol, and a defined one, has at most n arguments
abbrev pub HasFew : ℕ → Command → Type 0
HasFew n (declare x k s) = k ≤ n
HasFew n (define x xs s t) = length xs ≤ n
HasFew n (claim t) = Unit {0}
HasFew n check = Unit {0}

-- so has one that a command declares or defines
abbrev pub DoesFew : ℕ → Act → Type 0
DoesFew n (does c) = HasFew n c
DoesFew n (asks ts) = Unit {0}
DoesFew n (opens k) = Unit {0}
DoesFew n (leaves k) = Unit {0}
DoesFew n restarts = Unit {0}
