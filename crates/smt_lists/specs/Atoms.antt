-- What a token that is no parenthesis says.
use Rattle.std.specs.Prelude.{ℕ, ◌+◌, ◌-◌, ◌^◌, Bool, true, false, List, take, drop, pos, nat_lt, if◌then◌else◌}
use Rattle.smt_tokens.specs.declared.terminals.Terminal.{Terminal}
use Rattle.smt_tokens.specs.declared.terminals.Terminal.TheVariants as t
use Rattle.smt_tokens.specs.declared.terminals.Lexeme.{Lexeme}
use Rattle.smt_lists.specs.declared.tree.Atom.{Atom}
use Rattle.smt_lists.specs.declared.tree.AtomKind.{AtomKind}
use Rattle.smt_lists.specs.declared.tree.AtomKind.TheVariants as k
use Rattle.base_numerals.specs.Numerals.{decimal_value}

-- the token is an atom
abbrev pub is_atom : Terminal → Bool
is_atom t.Open = false
is_atom t.Close = false
is_atom t.Bad = false
is_atom t.Unfinished = false
is_atom _ = true

-- n bytes of a text from an offset on
abbrev pub span : List ℕ → ℕ → ℕ → List ℕ
span bytes at n = take n (drop at bytes)

-- a numeral of this value
abbrev pub numeral_of : ℕ → AtomKind
numeral_of n = if nat_lt n (2 ^ 127) then k.Numeral (pos n) else k.LargeNumeral

-- the text of a token
abbrev pub whole : List ℕ → Lexeme → List ℕ
whole bytes x = span bytes x.at x.len

-- the text of a token between its first and its last byte
abbrev pub inner : List ℕ → Lexeme → List ℕ
inner bytes x = span bytes (x.at + 1) (x.len - 2)

-- what a token of a text is as an atom; of a string, and of a symbol between bars, what stands between its ends
abbrev pub kind_of : List ℕ → Lexeme → Terminal → AtomKind
kind_of bytes x t.Numeral = numeral_of (decimal_value (span bytes x.at x.len))
kind_of bytes x t.Decimal = k.Decimal
kind_of bytes x t.Hash = k.Hash
kind_of bytes x t.StringLiteral = k.StringLiteral (inner bytes x)
kind_of bytes x t.Keyword = k.Keyword (whole bytes x)
kind_of bytes x t.Quoted = k.Symbol (inner bytes x)
kind_of bytes x _ = k.Symbol (whole bytes x)

abbrev pub atom_of : List ℕ → Lexeme → Atom
atom_of bytes x = record { at = x.at; kind = kind_of bytes x x.terminal }
