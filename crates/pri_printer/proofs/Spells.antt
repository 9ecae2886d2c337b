-- When a text spells a formula or a term, wherever it stands.
use Rattle.std.specs.Prelude.{ℕ, ◌≡◌, ◌<◌, ◌+◌, ◌^◌, true, List, [], ◌++◌}
use Rattle.pri_tokens.specs.declared.terminals.Lexeme.{Lexeme}
use Rattle.pri_reader.specs.declared.tree.Expr.{Expr}
use Rattle.pri_reader.specs.Grammar.{Setting, Derives, Part}
use Rattle.form_typed.specs.Formula.{Formula, Expression}
use Rattle.pri_typing.specs.declared.scope.Category.TheVariants as category
use Rattle.pri_typing.specs.Phrase.{Phrase, phrase}
use Rattle.pri_typing.specs.Scope.{Scope}
use Rattle.pri_typing.specs.Faults.{faults, is_numeral}
use Rattle.pri_typing.specs.Typing.{says, value}
use Rattle.pri_printer.proofs.Writing.{Ends, tokens_at, is_parted}

-- numerals below 2^127 are allowed, and n levels below d open ones
pub record Allows (s : Setting) (d n : ℕ) : Type 0 where
  pub numerals : (rest : List Lexeme) (v : ℕ) → v < 2 ^ 127 → s.small rest v ≡ true
  pub levels : (rest : List Lexeme) (e : ℕ) → e < d + n → s.shallow rest e ≡ true

-- the text up to the rest is derived from the part, as a phrase of this kind
pub record Derived (s : Setting) (d : ℕ) (part : Part) (Q : Phrase → Type 0) (text rest : List ℕ) : Type 0 where
  pub expression : Expr
  pub derived : Derives s d part expression (tokens_at s.bytes text) (tokens_at s.bytes rest)
  pub is : Q (phrase expression)

-- wherever it stands, the text is derived from the part, opening at most n levels, as a phrase of this kind
pub record Spells (n : ℕ) (part : Part) (Q : Phrase → Type 0) (text : List ℕ) : Type 0 where
  pub wherever : (s : Setting) (d : ℕ) (rest : List ℕ) → Allows s d n → Ends s.bytes (text ++ rest) → is_parted rest ≡ true
      → Derived s d part Q (text ++ rest) rest

-- the phrase types as this term
pub record IsTerm (sc : Scope) (t : Expression) (p : Phrase) : Type 0 where
  pub faultless : (at : ℕ) → faults sc category.Term at p ≡ []
  pub is : value sc p ≡ t

-- the phrase types as this formula
pub record IsFormula (sc : Scope) (f : Formula) (p : Phrase) : Type 0 where
  pub faultless : (at : ℕ) → faults sc category.Formula at p ≡ []
  pub is : says sc p ≡ f

-- the phrase is built of numbers, and types as this term
pub record IsNumeral (sc : Scope) (t : Expression) (p : Phrase) : Type 0 where
  pub term : IsTerm sc t p
  pub numeral : is_numeral p ≡ true
