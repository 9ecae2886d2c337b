-- The term that a text is.
use Rattle.std.specs.Prelude.{ℕ, ◌≡◌, List, [], ◌∷◌, ◌++◌, Bool, true, false, Option, Some, None}
use Rattle.pri_tokens.specs.Lexemes.{lexemes_of}
use Rattle.pri_tokens.specs.declared.terminals.Lexeme.{Lexeme}
use Rattle.pri_tokens.specs.declared.terminals.Terminal.{Terminal}
use Rattle.pri_tokens.specs.declared.terminals.Terminal.TheVariants as t
use Rattle.pri_reader.specs.declared.tree.Expr.{Expr}
use Rattle.pri_reader.specs.declared.tree.Block.{Block}
use Rattle.pri_reader.specs.declared.tree.Block.TheVariants as block
use Rattle.pri_reader.specs.Grammar.{Derives, sum}
use Rattle.pri_reader.specs.Reading.{file_setting}
use Rattle.pri_typing.specs.Phrase.{Phrase, phrase, compared, negation, quantified, part, conjunction, disjunction, implication, equivalence}

-- the text is this one sum, with numerals below 2^127 and at most 200 levels
abbrev pub ReadsTerm : List ℕ → Expr → Type 0
ReadsTerm text e = Derives (file_setting text) 0 sum e (lexemes_of text) []

-- the text is this term; or it is none
abbrev pub IsReadTerm : List ℕ → Option Expr → Type 0
IsReadTerm text (Some e) = ReadsTerm text e
IsReadTerm text None = (e : Expr) → ReadsTerm text e → ⊥

-- a token that stands in no file
abbrev pub made : Terminal → Lexeme
made terminal = record { at = 0; len = 0; terminal = terminal }

-- the tokens as those of a `\problem` block
abbrev pub in_block : List Lexeme → List Lexeme
in_block tokens = made t.Problem ∷ made t.OpenBrace ∷ (tokens ++ made t.CloseBrace ∷ [])

-- the line of the grammar for sums makes no tree of the other forms
abbrev pub is_sum_phrase : Phrase → Bool
is_sum_phrase (compared at c p q) = false
is_sum_phrase (negation at p) = false
is_sum_phrase (quantified at all names p) = false
is_sum_phrase (part at x p) = false
is_sum_phrase (conjunction at ps) = false
is_sum_phrase (disjunction at ps) = false
is_sum_phrase (implication at p q) = false
is_sum_phrase (equivalence at p q) = false
is_sum_phrase _ = true

abbrev pub is_sum : Expr → Bool
is_sum e = is_sum_phrase (phrase e)

-- the blocks are one `\problem` with this term as its formula; or they are no such block
abbrev pub IsOnlyTerm : List Block → Option Expr → Type 0
IsOnlyTerm blocks (Some e) = ((at : ℕ) × (blocks ≡ block.Problem at e ∷ [])) × (is_sum e ≡ true)
IsOnlyTerm blocks None = (at : ℕ) (e : Expr) → blocks ≡ block.Problem at e ∷ [] → is_sum e ≡ false
