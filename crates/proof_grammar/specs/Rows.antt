-- The line that begins a node.
use Rattle.std.specs.Prelude.{ℕ, List}
use Rattle.sequent.specs.declared.member.Pick.{Pick}
use Rattle.sequent.specs.declared.member.Pick.TheVariants as pick
use Rattle.proof_tokens.specs.declared.tokens.Token.{Token}
use Rattle.proof_tokens.specs.declared.tokens.Token.TheVariants as t
use Rattle.proof_grammar.specs.declared.rows.RowWord.{RowWord}
use Rattle.proof_grammar.specs.declared.rows.RowWord.TheVariants as q
use Rattle.proof_grammar.specs.declared.rows.OneWord.{OneWord}
use Rattle.proof_grammar.specs.declared.rows.OneWord.TheVariants as r
use Rattle.proof_grammar.specs.Lines.{row_text}
use Rattle.proof_grammar.specs.Owed.{HasWidth}

-- a token that begins a node
abbrev pub IsRowWord : Token → Type 0
IsRowWord t.Trivial = Unit {0}
IsRowWord t.Alpha = Unit {0}
IsRowWord t.Beta = Unit {0}
IsRowWord t.Delta = Unit {0}
IsRowWord t.Gamma = Unit {0}
IsRowWord t.Close = Unit {0}
IsRowWord _ = ⊥

abbrev pub one_token : OneWord → Token
one_token r.Trivial = t.Trivial
one_token r.Alpha = t.Alpha
one_token r.Delta = t.Delta
one_token r.Gamma = t.Gamma

abbrev pub word_token : RowWord → Token
word_token (q.One k) = one_token k
word_token q.Beta = t.Beta
word_token q.Close = t.Close

-- a rule and the number of its premises, as one line says them
abbrev pub IsRow : (Pick × ℕ) → Type 0
IsRow p = HasWidth p.0 p.1

abbrev pub row_line : (Pick × ℕ) → List Token
row_line p = row_text p.0 p.1

-- the rule that a word with a position is, and the number of its premises
abbrev pub placed : OneWord → ℕ → Pick × ℕ
placed r.Trivial i = (pick.Trivial i, 0)
placed r.Alpha i = (pick.Alpha i, 1)
placed r.Delta i = (pick.Delta i, 1)
placed r.Gamma i = (pick.Gamma i, 1)
