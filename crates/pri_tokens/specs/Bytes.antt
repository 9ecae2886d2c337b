-- The bytes of a token.
use Rattle.std.specs.Prelude.{ℕ, List, take, drop}
use Rattle.pri_tokens.specs.declared.terminals.Lexeme.{Lexeme}

-- the bytes of a token
abbrev pub text_of : List ℕ → Lexeme → List ℕ
text_of bytes x = take x.len (drop x.at bytes)
