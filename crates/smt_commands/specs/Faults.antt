-- What keeps a script from being taken, but for its tokens and its size.
use Rattle.std.specs.Prelude.{ℕ, ◌+◌, Bool, true, false, List, [], ◌∷◌, ◌++◌, length, Option, Some, None, nat_le, if◌then◌else◌}
use Rattle.std.specs.List.{flat_map}
use Rattle.base_limits.specs.Limits.{most_symbols}
use Rattle.smt_lists.specs.Expressions.{Expr, place_of}
use Rattle.smt_commands.specs.declared.refusal.ScriptRefusal.{ScriptRefusal}
use Rattle.smt_commands.specs.declared.refusal.ScriptRefusal.TheVariants as r
use Rattle.smt_terms.specs.declared.operator.Sort.{Sort}
use Rattle.smt_terms.specs.declared.operator.Sort.TheVariants as sort
use Rattle.smt_commands.specs.Commands.{Symbol, CommandForm, skip, say, declare, define, assert, check_sat, push, pop, reset, exit, members_of, command_of}
use Rattle.smt_commands.specs.Levels.{Levels, lowest, popped, pushed, with_now}
use Rattle.smt_commands.specs.declared.table.Entry.{Entry}
use Rattle.smt_commands.specs.Least.{least}
use Rattle.smt_commands.specs.Symbols.{sort_of, after, declared_number, is_taken}

-- what terms are asked for: the faults of a term where a sort is needed, or any, after these symbols and with these arguments
-- of a definition bound around it; and whether a symbol occurs in it that no binder and none of the arguments hides
pub record TermFaults : Type 0 where
  pub faults : List Entry → List Expr → Option Sort → Expr → List ScriptRefusal
  pub uses : List ℕ → List Expr → Expr → Bool

abbrev pub sort_fault : ℕ → Bool → Option Sort → List ScriptRefusal
sort_fault at bool (Some sort.Int) = []
sort_fault at true (Some sort.Bool) = []
sort_fault at false (Some sort.Bool) = r.Profile at ∷ []
sort_fault at bool None = r.Profile at ∷ []

-- the fault of what stands for a sort: Int, and Bool where that is allowed too
abbrev pub sort_faults : Bool → Expr → List ScriptRefusal
sort_faults bool e = sort_fault (place_of e) bool (sort_of e)

abbrev pub pair_faults : List Expr → List ScriptRefusal
pair_faults (x ∷ s ∷ []) = sort_faults false s
pair_faults _ = []

abbrev pub argument_by : Option (List Expr) → List ScriptRefusal
argument_by None = []
argument_by (Some es) = pair_faults es

-- the fault of an argument of a definition
abbrev pub argument_faults : Expr → List ScriptRefusal
argument_faults e = argument_by (members_of e)

-- the fault of a symbol that is declared or defined
abbrev pub name_faults : List Entry → Symbol → List ScriptRefusal
name_faults table x = if is_taken x.text table then r.Redeclared x.at ∷ [] else []

-- the fault of one declared symbol too many
abbrev pub many_faults : List Entry → Symbol → List ScriptRefusal
many_faults table x = if nat_le most_symbols (declared_number table) then r.Many x.at ∷ [] else []

-- a symbol may not occur in the term that defines it
abbrev pub use_faults : TermFaults → ℕ → List ℕ → List Expr → Expr → List ScriptRefusal
use_faults terms at text arguments t = if terms.uses text arguments t then r.Profile at ∷ [] else []

-- the faults of the term of a definition whose `(` is at this offset
abbrev pub body_faults : TermFaults → List Entry → ℕ → List ℕ → List Expr → Option Sort → Expr → List ScriptRefusal
body_faults terms table at text arguments want t = use_faults terms at text arguments t ++ terms.faults table arguments want t

-- the faults of a declaration
abbrev pub declaration_faults : List Entry → Symbol → List Expr → Expr → List ScriptRefusal
declaration_faults table x sorts s = name_faults table x ++ many_faults table x ++ flat_map (sort_faults false) sorts ++ sort_faults true s

-- the faults of a definition, but for those of its term
abbrev pub definition_faults : List Entry → Symbol → List Expr → Expr → List ScriptRefusal
definition_faults table f arguments s = name_faults table f ++ flat_map argument_faults arguments ++ sort_faults true s

-- at most this many levels are open
abbrev pub most_levels : ℕ
most_levels = 10000

-- a level too many, where this many are open
abbrev pub push_faults : ℕ → ℕ → ℕ → List ScriptRefusal
push_faults levels n at = if nat_le (levels + n) most_levels then [] else r.Deep at ∷ []

-- more levels are left than are open
abbrev pub pop_faults : ℕ → ℕ → ℕ → List ScriptRefusal
pop_faults levels n at = if nat_le n levels then [] else r.Profile at ∷ []

-- the faults of terms that are asserted or assumed
abbrev pub claim_faults : TermFaults → List Entry → List Expr → List ScriptRefusal
claim_faults terms table = flat_map (terms.faults table [] (Some sort.Bool))

-- the faults of the command whose `(` is at this offset, after these symbols
abbrev pub command_faults : TermFaults → Levels (List Entry) → ℕ → Option CommandForm → List ScriptRefusal
command_faults terms l at None = r.Profile at ∷ []
command_faults terms l at (Some (declare x sorts s)) = declaration_faults l.now x sorts s
command_faults terms l at (Some (define f arguments s t)) = definition_faults l.now f arguments s ++ body_faults terms l.now at f.text arguments (sort_of s) t
command_faults terms l at (Some (assert t)) = terms.faults l.now [] (Some sort.Bool) t
command_faults terms l at (Some (check_sat ts)) = claim_faults terms l.now ts
command_faults terms l at (Some (push n)) = push_faults (length l.below) n at
command_faults terms l at (Some (pop n)) = pop_faults (length l.below) n at
command_faults terms l at (Some _) = []

abbrev pub form_in : Option (List Expr) → Option CommandForm
form_in None = None
form_in (Some es) = command_of es

-- the command that an S-expression is
abbrev pub form : Expr → Option CommandForm
form e = form_in (members_of e)

-- the symbols after what may be a command: those of a level that is left are no longer declared (section 4.2.3)
abbrev pub behind : Levels (List Entry) → Option CommandForm → Levels (List Entry)
behind l None = l
behind l (Some skip) = l
behind l (Some (say x)) = l
behind l (Some (declare x sorts s)) = with_now l (after l.now (declare x sorts s))
behind l (Some (define f arguments s t)) = with_now l (after l.now (define f arguments s t))
behind l (Some (assert t)) = l
behind l (Some (check_sat ts)) = l
behind l (Some (push n)) = pushed n l
behind l (Some (pop n)) = popped n l
behind l (Some reset) = lowest []
behind l (Some exit) = l

-- a refusal, or else that of the commands after
abbrev pub or_later : Option ScriptRefusal → Option ScriptRefusal → Option ScriptRefusal
or_later None later = later
or_later (Some e) later = Some e

abbrev pub unless_exit : Option CommandForm → Option ScriptRefusal → Option ScriptRefusal
unless_exit (Some exit) later = None
unless_exit _ later = later

-- the refusal of a script from a command on, after these symbols: the least fault of the first command that has one, where
-- no `exit` stands before it
abbrev pub refusal_from : TermFaults → Levels (List Entry) → List Expr → Option ScriptRefusal
refusal_from terms l [] = None
refusal_from terms l (e ∷ es) = or_later (least (command_faults terms l (place_of e) (form e))) (unless_exit (form e) (refusal_from terms (behind l (form e)) es))

-- the refusal of a script
abbrev pub refusal_of : TermFaults → List Expr → Option ScriptRefusal
refusal_of terms = refusal_from terms (lowest [])
