-- The reader of scripts as a machine over tokens: its state is the lists that are open, the innermost first, and the members
-- so far of the innermost one.
use Rattle.std.specs.Prelude.{ℕ, ◌≡◌, List, [], ◌∷◌, ◌++◌, length, reverse, Result, Ok, Err, nat_lt, if◌then◌else◌}
use Rattle.smt_tokens.specs.declared.terminals.Terminal.{Terminal}
use Rattle.smt_tokens.specs.declared.terminals.Terminal.TheVariants as t
use Rattle.smt_tokens.specs.declared.terminals.Lexeme.{Lexeme}
use Rattle.smt_lists.specs.declared.tree.Atom.{Atom}
use Rattle.smt_lists.specs.declared.tree.Sexp.{Sexp}
use Rattle.smt_lists.specs.declared.tree.Sexp.TheVariants as s
use Rattle.smt_lists.specs.declared.refusal.ReadRefusal.{ReadRefusal}
use Rattle.smt_lists.specs.declared.refusal.ReadRefusal.TheVariants as refusal
use Rattle.smt_lists.specs.declared.reading.Outer.{Outer}
use Rattle.smt_lists.specs.declared.reading.State.{State}
use Rattle.smt_lists.specs.Atoms.{atom_of}
use Rattle.smt_lists.specs.Grammar.{IsScript}
use Rattle.smt_lists.specs.First.{IsFirst}

-- what comes of the tokens after the next one, by the lists that are open and the members so far
abbrev pub Go : Type 0
Go = List Outer → List Sexp → Result (List Sexp) ReadRefusal

abbrev pub opened : ℕ → ℕ → Go → Go
opened most at go os es = if nat_lt (length os) most then go (record { at = at; before = es } ∷ os) [] else Err (refusal.Deep at)

abbrev pub closed : ℕ → Go → Go
closed at go [] es = Err (refusal.Syntax at)
closed at go (o ∷ os) es = go os (o.before ++ s.List o.at es ∷ [])

abbrev pub named : Atom → Go → Go
named a go [] es = Err (refusal.Syntax a.at)
named a go (o ∷ os) es = go (o ∷ os) (es ++ s.Atom a ∷ [])

-- what a token does: at most this many lists may be open, and the text ends at this offset
abbrev pub taken : List ℕ → ℕ → ℕ → Lexeme → Terminal → Go → Go
taken b most end x t.Open go os es = opened most x.at go os es
taken b most end x t.Close go os es = closed x.at go os es
taken b most end x t.Bad go os es = Err (refusal.Syntax x.at)
taken b most end x t.Unfinished go os es = Err (refusal.Syntax end)
taken b most end x _ go os es = named (atom_of b x) go os es

abbrev pub ended : ℕ → Go
ended end [] es = Ok es
ended end (o ∷ os) es = Err (refusal.Syntax end)

unfoldable pub run : List ℕ → ℕ → ℕ → List Lexeme → Go
run b most end [] os es = ended end os es
run b most end (x ∷ tokens) os es = taken b most end x x.terminal (run b most end tokens) os es

-- what comes of tokens in a state of the code, whose last open list is the innermost one
abbrev pub run_in : List ℕ → ℕ → List Lexeme → State → Result (List Sexp) ReadRefusal
run_in b end tokens state = run b 200 end tokens (reverse state.outer) state.members

-- what an outcome says of tokens: they are the script, or they are refused first so
abbrev pub MeansLists : List ℕ → ℕ → List Lexeme → Result (List Sexp) ReadRefusal → Type 0
MeansLists b end tokens (Ok es) = IsScript b 200 es tokens
MeansLists b end tokens (Err e) = IsFirst b end tokens e

-- the text is refused so; running out of memory says nothing
abbrev pub ListsFailWith : ReadRefusal → Result (List Sexp) ReadRefusal → Type 0
ListsFailWith refusal.Memory outcome = Unit {0}
ListsFailWith (refusal.Syntax at) outcome = outcome ≡ Err (refusal.Syntax at)
ListsFailWith (refusal.Deep at) outcome = outcome ≡ Err (refusal.Deep at)

-- this next token leads to a state
pub record LeadsLists (b : List ℕ) (end : ℕ) (x : Lexeme) (old new : State) : Type 0 where
  pub run : (tokens : List Lexeme) → run_in b end (x ∷ tokens) old ≡ run_in b end tokens new

-- this next token is refused so
pub record StopsLists (b : List ℕ) (end : ℕ) (x : Lexeme) (old : State) (e : ReadRefusal) : Type 0 where
  pub run : (tokens : List Lexeme) → ListsFailWith e (run_in b end (x ∷ tokens) old)
