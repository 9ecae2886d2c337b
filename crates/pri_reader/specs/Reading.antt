-- What the functions of the reader say of the machine.
use Rattle.std.specs.Prelude.{ℕ, ℤ, pos, ◌≡◌, ◌≤◌, ◌<◌, ◌+◌, ◌^◌, Bool, List, [], ◌∷◌, ◌++◌, length, Result, Ok, Err, Some, None, nat_lt}
use Rattle.pri_tokens.specs.declared.terminals.Terminal.{Terminal}
use Rattle.pri_tokens.specs.declared.terminals.Terminal.TheVariants as t
use Rattle.pri_tokens.specs.declared.terminals.Lexeme.{Lexeme}
use Rattle.pri_reader.specs.declared.tree.Expr.{Expr}
use Rattle.pri_reader.specs.declared.tree.File.{File}
use Rattle.pri_reader.specs.declared.tree.Comparison.{Comparison}
use Rattle.pri_reader.specs.declared.tree.ReadRefusal.{ReadRefusal}
use Rattle.pri_reader.specs.declared.tree.ReadRefusal.TheVariants as refusal
use Rattle.pri_reader.specs.declared.tree.TypeName.{TypeName}
use Rattle.pri_reader.specs.declared.tree.Declared.{Declared}
use Rattle.pri_reader.specs.declared.binders.NextBound.{NextBound}
use Rattle.pri_reader.specs.declared.binders.NextBound.TheVariants as next
use Rattle.pri_reader.specs.declared.classes.Prefix.{Prefix}
use Rattle.pri_reader.specs.declared.classes.Heading.{Heading}
use Rattle.pri_reader.specs.declared.classes.Opening.{Opening}
use Rattle.pri_reader.specs.Classes.{adding_of, comparison_of, heading_of, opening_of, prefix_of}
use Rattle.pri_reader.specs.Grammar.{Setting, value_of, Takes, TakesNumber}
use Rattle.pri_reader.specs.MachineStates.{Want, TypeFor, Side, a_type, an_endpoint, behind_endpoint, behind_type, a_bound, a_unary, bound_more, gives, Frame, bound_at, wrap}
use Rattle.pri_reader.specs.Machine.{run}

-- the bytes of a file, with numerals below 2^127 and at most 200 levels
abbrev pub file_setting : List ℕ → Setting
file_setting bytes = record { bytes = bytes; small = λ rest value. nat_lt value (2 ^ 127); shallow = λ rest depth. nat_lt depth 200 }

-- what the last tokens of a file are read as, in a state
unfoldable pub reads : List ℕ → List Lexeme → Want → List Frame → Result File ReadRefusal
reads bytes tokens want frames = run (file_setting bytes) (length bytes) tokens want frames

-- the offset of the next token, or the length of the file
abbrev pub place : ℕ → List Lexeme → ℕ
place end [] = end
place end (x ∷ tokens) = x.at

-- no token of this terminal comes next
pub record NotNext (terminal : Terminal) (tokens : List Lexeme) : Type 0 where
  pub no : (x : Lexeme) (rest : List Lexeme) → tokens ≡ x ∷ rest → x.terminal ≡ terminal → ⊥

-- the next token adds a term, with this sign
pub record AddsTerm (sign : Bool) (tokens rest : List Lexeme) : Type 0 where
  pub x : Lexeme
  pub parts : tokens ≡ x ∷ rest
  pub is : adding_of x.terminal ≡ Some sign

pub record AddsNone (tokens : List Lexeme) : Type 0 where
  pub no : (x : Lexeme) (rest : List Lexeme) → tokens ≡ x ∷ rest → adding_of x.terminal ≡ None

-- the next token is this comparison
pub record Compares (c : Comparison) (tokens rest : List Lexeme) : Type 0 where
  pub x : Lexeme
  pub parts : tokens ≡ x ∷ rest
  pub is : comparison_of x.terminal ≡ Some c

pub record ComparesNone (tokens : List Lexeme) : Type 0 where
  pub no : (x : Lexeme) (rest : List Lexeme) → tokens ≡ x ∷ rest → comparison_of x.terminal ≡ None

-- the next token x begins this formula that is no relation
pub record Prefixes (p : Prefix) (x : Lexeme) (tokens rest : List Lexeme) : Type 0 where
  pub parts : tokens ≡ x ∷ rest
  pub is : prefix_of x.terminal ≡ Some p

pub record PrefixesNone (tokens : List Lexeme) : Type 0 where
  pub no : (x : Lexeme) (rest : List Lexeme) → tokens ≡ x ∷ rest → prefix_of x.terminal ≡ None

-- the next token x begins this term, or formula in parentheses
pub record BeginsTerm (o : Opening) (x : Lexeme) (tokens rest : List Lexeme) : Type 0 where
  pub parts : tokens ≡ x ∷ rest
  pub is : opening_of x.terminal ≡ Some o

pub record BeginsNone (tokens : List Lexeme) : Type 0 where
  pub no : (x : Lexeme) (rest : List Lexeme) → tokens ≡ x ∷ rest → opening_of x.terminal ≡ None

-- the next token x begins this block
pub record Heads (heading : Heading) (x : Lexeme) (tokens rest : List Lexeme) : Type 0 where
  pub parts : tokens ≡ x ∷ rest
  pub is : heading_of x.terminal ≡ Some heading

pub record HeadsNone (tokens : List Lexeme) : Type 0 where
  pub no : (x : Lexeme) (rest : List Lexeme) → tokens ≡ x ∷ rest → heading_of x.terminal ≡ None

-- one more level is opened below d: m are open then
pub record Opened (d m : ℕ) : Type 0 where
  pub is : m ≡ d + 1
  pub below : d < 200

-- the token at this offset opens the 201st level
pub record NoRoom (d at : ℕ) (e : ReadRefusal) : Type 0 where
  pub is : e ≡ refusal.Deep at
  pub deep : 200 ≤ d

-- the next token, or the end of the file, is refused: no token of this terminal comes next
pub record Unwanted (terminal : Terminal) (bytes : List ℕ) (tokens : List Lexeme) (e : ReadRefusal) : Type 0 where
  pub is : e ≡ refusal.Syntax (place (length bytes) tokens)
  pub no : NotNext terminal tokens

-- a number of this value comes next
pub record TakesValue (b : List ℕ) (value : ℤ) (tokens rest : List Lexeme) : Type 0 where
  pub x : Lexeme
  pub takes : TakesNumber (file_setting b) x tokens rest
  pub is : value ≡ pos (value_of (file_setting b) x)

-- the next token is refused: it is no number, or a number above 2^127 − 1
pub data RefusesNumber (b : List ℕ) (tokens : List Lexeme) (e : ReadRefusal) : Type 0 where
  no_number : Unwanted t.Number b tokens e → RefusesNumber b tokens e
  too_large : {x : Lexeme} {rest : List Lexeme} → Takes t.Number x tokens rest → 2 ^ 127 ≤ value_of (file_setting b) x → e ≡ refusal.Literal x.at
      → RefusesNumber b tokens e

-- the file is refused so; running out of memory says nothing
abbrev pub FailsWith : ReadRefusal → Result File ReadRefusal → Type 0
FailsWith refusal.Memory outcome = Unit {0}
FailsWith (refusal.Syntax at) outcome = outcome ≡ Err (refusal.Syntax at)
FailsWith (refusal.Literal at) outcome = outcome ≡ Err (refusal.Literal at)
FailsWith (refusal.Deep at) outcome = outcome ≡ Err (refusal.Deep at)

-- From a state with these frames above all others, the tokens up to the rest lead to another state: the outcome of the
-- file is the same.
pub record LeadsReader (b : List ℕ) (tokens : List Lexeme) (want : Want) (above : List Frame) (rest : List Lexeme) (new : Want) (left : List Frame) : Type 0 where
  pub run : (frames : List Frame) → reads b tokens want (above ++ frames) ≡ reads b rest new (left ++ frames)

-- the tokens before the rest are read as this expression
abbrev pub IsRead : List ℕ → Want → List Frame → Expr → List Lexeme → List Lexeme → Type 0
IsRead b want above f tokens rest = LeadsReader b tokens want above rest (gives f) []

-- the file is refused so, where these tokens are read in a state with these frames above all others
pub record IsReadRefused (b : List ℕ) (want : Want) (above : List Frame) (tokens : List Lexeme) (e : ReadRefusal) : Type 0 where
  pub run : (frames : List Frame) → FailsWith e (reads b tokens want (above ++ frames))

-- Types, for each use of one.

-- the tokens lead from each of these states, with any frames, to one of those
pub record LeadsEach {A : Type 0} (b : List ℕ) (tokens : List Lexeme) (want : A → Want) (rest : List Lexeme) (new : A → Want) : Type 0 where
  pub run : (a : A) (frames : List Frame) → reads b tokens (want a) frames ≡ reads b rest (new a) frames

-- the file is refused so, where these tokens are read in any of these states
pub record RefusedEach (b : List ℕ) {A : Type 0} (want : A → Want) (tokens : List Lexeme) (e : ReadRefusal) : Type 0 where
  pub run : (a : A) (frames : List Frame) → FailsWith e (reads b tokens (want a) frames)

-- the tokens before the rest are read as this type
abbrev pub ReadsType : List ℕ → TypeName → List Lexeme → List Lexeme → Type 0
ReadsType b sort tokens rest = LeadsEach b tokens (λ for. a_type for) rest (λ for. behind_type for sort)

abbrev pub ReadsNoType : List ℕ → List Lexeme → ReadRefusal → Type 0
ReadsNoType b tokens e = RefusedEach b (λ for. a_type for) tokens e

-- the tokens before the rest are read as this endpoint of a range
abbrev pub ReadsEndpoint : List ℕ → ℤ → List Lexeme → List Lexeme → Type 0
ReadsEndpoint b value tokens rest = LeadsEach b tokens (λ (p : TypeFor × Side). an_endpoint p.0 p.1) rest (λ (p : TypeFor × Side). behind_endpoint p.0 p.1 value)

abbrev pub ReadsNoEndpoint : List ℕ → List Lexeme → ReadRefusal → Type 0
ReadsNoEndpoint b tokens e = RefusedEach b (λ (p : TypeFor × Side). an_endpoint p.0 p.1) tokens e

-- The names that a quantifier binds, for each offset and kind of the quantifier.

-- the tokens lead from one state of a binder to another
pub record LeadsBound (b : List ℕ) (tokens : List Lexeme) (want : ℕ → Bool → Want) (rest : List Lexeme) (new : ℕ → Bool → Want) : Type 0 where
  pub run : (at : ℕ) (all : Bool) (frames : List Frame) → reads b tokens (want at all) frames ≡ reads b rest (new at all) frames

-- the tokens before the rest end a binder with these names, and e levels are open after it
pub record Binds (b : List ℕ) (want : ℕ → Bool → Want) (names : List Declared) (e : ℕ) (tokens rest : List Lexeme) : Type 0 where
  pub run : (at : ℕ) (all : Bool) (frames : List Frame) → reads b tokens (want at all) frames ≡ reads b rest (a_unary e) (wrap (bound_at at all names) ∷ frames)

-- the file is refused so, where these tokens are read in a state of a binder
pub record BindsNone (b : List ℕ) (want : ℕ → Bool → Want) (tokens : List Lexeme) (e : ReadRefusal) : Type 0 where
  pub run : (at : ℕ) (all : Bool) (frames : List Frame) → FailsWith e (reads b tokens (want at all) frames)

-- what the tokens after a bound name of a type lead to: to one more name, of the new type, or to the end of the binder
pub record BindsMore (b : List ℕ) (several : Bool) (old new : TypeName) (tokens rest : List Lexeme) : Type 0 where
  pub run : (n : ℕ) (names : List Declared) → LeadsBound b tokens (λ at all. bound_more at all several old n names) rest (λ at all. a_bound at all several new n names)

pub record BindsEnd (b : List ℕ) (several : Bool) (sort : TypeName) (tokens rest : List Lexeme) : Type 0 where
  pub run : (n : ℕ) (names : List Declared) → Binds b (λ at all. bound_more at all several sort n names) names n tokens rest

abbrev pub BindsNext : List ℕ → Bool → TypeName → NextBound → List Lexeme → List Lexeme → Type 0
BindsNext b several old (next.Name new) tokens rest = BindsMore b several old new tokens rest
BindsNext b several sort next.Body tokens rest = BindsEnd b several sort tokens rest

pub record BindsNoMore (b : List ℕ) (several : Bool) (sort : TypeName) (tokens : List Lexeme) (e : ReadRefusal) : Type 0 where
  pub run : (n : ℕ) (names : List Declared) → BindsNone b (λ at all. bound_more at all several sort n names) tokens e

-- the answer is this refusal, or running out of memory
abbrev pub AnswersRefusal : ReadRefusal → Result File ReadRefusal → Type 0
AnswersRefusal e (Ok found) = ⊥
AnswersRefusal e (Err refusal.Memory) = Unit {0}
AnswersRefusal e (Err (refusal.Syntax at)) = refusal.Syntax at ≡ e
AnswersRefusal e (Err (refusal.Literal at)) = refusal.Literal at ≡ e
AnswersRefusal e (Err (refusal.Deep at)) = refusal.Deep at ≡ e

-- the answer is this file, unless memory is wanted
abbrev pub GivesFile : File → Result File ReadRefusal → Type 0
GivesFile file (Ok found) = found ≡ file
GivesFile file (Err refusal.Memory) = Unit {0}
GivesFile file (Err _) = ⊥
