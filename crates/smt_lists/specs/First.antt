-- The first refusal of a script: where, of its tokens in their order, the first one stands with which no script goes on, or
-- which opens one level too many. A token is judged by the tokens before it and by itself, never by those after it.
use Rattle.std.specs.Prelude.{ℕ, ◌≡◌, Bool, true, false, List, [], ◌∷◌, ◌++◌, length, Result, Ok, Err, if◌then◌else◌}
use Rattle.smt_tokens.specs.declared.terminals.Terminal.{Terminal}
use Rattle.smt_tokens.specs.declared.terminals.Terminal.TheVariants as t
use Rattle.smt_tokens.specs.declared.terminals.Lexeme.{Lexeme}
use Rattle.smt_tokens.specs.Lexemes.{lexemes_of}
use Rattle.smt_lists.specs.declared.tree.Sexp.{Sexp}
use Rattle.smt_lists.specs.declared.refusal.ReadRefusal.{ReadRefusal}
use Rattle.smt_lists.specs.declared.refusal.ReadRefusal.TheVariants as refusal
use Rattle.smt_lists.specs.Grammar.{IsScript}

-- some tokens after these make them a script, in which lists stand at most n deep within each other
pub record BeginsScript (b : List ℕ) (n : ℕ) (front : List Lexeme) : Type 0 where
  pub more : List Lexeme
  pub lists : List Sexp
  pub is_script : IsScript b n lists (front ++ more)

abbrev pub is_unfinished : Terminal → Bool
is_unfinished t.Unfinished = true
is_unfinished _ = false

-- the offset of the next token; the length of the text where none comes, and where the text ends inside the next one
abbrev pub place : ℕ → List Lexeme → ℕ
place end [] = end
place end (x ∷ tokens) = if is_unfinished x.terminal then end else x.at

-- What is before this offset begins a script of at most 200 levels; no script, of any number of levels, goes on with the
-- token there; and where no token is left, what came is no script.
pub record ListsSyntaxAt (b : List ℕ) (end : ℕ) (tokens : List Lexeme) (at : ℕ) : Type 0 where
  pub front : List Lexeme
  pub back : List Lexeme
  pub parts : tokens ≡ front ++ back
  pub here : place end back ≡ at
  pub begins : BeginsScript b 200 front
  pub none : (x : Lexeme) (rest : List Lexeme) → back ≡ x ∷ rest → (n : ℕ) → BeginsScript b n (front ++ x ∷ []) → ⊥
  pub short : back ≡ [] → (n : ℕ) (es : List Sexp) → IsScript b n es front → ⊥

-- What is before this offset begins a script of at most 200 levels, and together with the `(` there one of 201 levels, but
-- none of 200.
pub record ListsDeepAt (b : List ℕ) (tokens : List Lexeme) (at : ℕ) : Type 0 where
  pub front : List Lexeme
  pub x : Lexeme
  pub back : List Lexeme
  pub parts : tokens ≡ front ++ x ∷ back
  pub here : x.at ≡ at
  pub opens : x.terminal ≡ t.Open
  pub begins : BeginsScript b 200 front
  pub fits : BeginsScript b 201 (front ++ x ∷ [])
  pub none : BeginsScript b 200 (front ++ x ∷ []) → ⊥

-- the tokens of a text that ends at this offset are refused first so; running out of memory says nothing
abbrev pub IsFirst : List ℕ → ℕ → List Lexeme → ReadRefusal → Type 0
IsFirst b end tokens (refusal.Syntax at) = ListsSyntaxAt b end tokens at
IsFirst b end tokens (refusal.Deep at) = ListsDeepAt b tokens at
IsFirst b end tokens refusal.Memory = Unit {0}

-- the text is refused first so
abbrev pub IsFirstListRefusal : List ℕ → ReadRefusal → Type 0
IsFirstListRefusal bytes e = IsFirst bytes (length bytes) (lexemes_of bytes) e

-- the answer is these lists, unless memory is wanted
abbrev pub GivesLists : List Sexp → Result (List Sexp) ReadRefusal → Type 0
GivesLists es (Ok found) = found ≡ es
GivesLists es (Err refusal.Memory) = Unit {0}
GivesLists es (Err _) = ⊥
