-- Where the tokens of a text begin and end, by longest match.
use Rattle.std.specs.Prelude.{ℕ, zero, suc, ◌+◌, ◌-◌, ◌==◌, ◌&&◌, ◌||◌, not, Bool, false, List, [], ◌∷◌, length, take, drop, map, slice_index, Option, Some, None, if◌then◌else◌}
use Rattle.std.specs.Option.{option_map}
use Rattle.std.specs.List.{prefix_len}
use Rattle.std.specs.Char.{is_ascii_digit, is_ascii_alphabetic}
use Rattle.pri_tokens.specs.declared.terminals.Terminal.{Terminal}
use Rattle.pri_tokens.specs.declared.terminals.Terminal.TheVariants as t
use Rattle.pri_tokens.specs.declared.terminals.Lexeme.{Lexeme}
use Rattle.pri_tokens.specs.declared.terminals.Token.{Token}
use Rattle.pri_tokens.specs.declared.spellings.Sign.{Sign}
use Rattle.pri_tokens.specs.declared.scanner.Piece.{Piece}
use Rattle.pri_tokens.specs.Spellings.{word_of, command_of, sign_of}
use Rattle.pri_tokens.specs.Terminals.{kind_of}

-- space, tab, line feed or carriage return
abbrev pub is_white : ℕ → Bool
is_white b = b == 32 || b == 9 || b == 10 || b == 13

-- a letter or `_`
abbrev pub starts_name : ℕ → Bool
starts_name b = is_ascii_alphabetic b || b == 95

-- a letter, a digit or `_`
abbrev pub is_name_byte : ℕ → Bool
is_name_byte b = starts_name b || is_ascii_digit b

-- every byte but the line feed
abbrev pub is_not_line_feed : ℕ → Bool
is_not_line_feed b = not (b == 10)

-- the length of a text up to and with its first `*/`, where `star` says whether a `*` stands before the text
abbrev pub behind_close : Bool → List ℕ → Option ℕ
behind_close star [] = None
behind_close star (b ∷ bs) = if star && b == 47 then Some 1 else option_map suc (behind_close (b == 42) bs)

abbrev pub blank : ℕ → Piece
blank n = record { len = n; terminal = None }

abbrev pub named : ℕ → Terminal → Piece
named n terminal = record { len = n; terminal = Some terminal }

-- what begins at the `/*` before the text: a comment up to the first `*/`, or one bad token up to the end of the file
abbrev pub comment_piece : List ℕ → Option ℕ → Piece
comment_piece text (Some n) = blank (2 + n)
comment_piece text None = named (2 + length text) t.Bad

-- what begins at a `/` with the text after it: a comment to the end of the line, a comment to a `*/`, or a bad byte
abbrev pub slash_piece : List ℕ → Piece
slash_piece text =
    if slice_index text 0 == 47 then blank (1 + prefix_len is_not_line_feed text) else
    (if slice_index text 0 == 42 then comment_piece (drop 1 text) (behind_close false (drop 1 text)) else
    named 1 t.Bad)

abbrev pub sign_piece : Sign → Piece
sign_piece s = named s.len s.terminal

-- the longest token, or the white space or comment, that begins at the byte b with the text after it
abbrev pub piece_of : ℕ → List ℕ → Piece
piece_of b text =
    if is_white b then blank 1 else
    (if starts_name b then named (1 + prefix_len is_name_byte text) (word_of (take (1 + prefix_len is_name_byte text) (b ∷ text))) else
    (if is_ascii_digit b then named (1 + prefix_len is_ascii_digit text) t.Number else
    (if b == 92 then named (1 + prefix_len is_ascii_alphabetic text) (command_of (take (1 + prefix_len is_ascii_alphabetic text) (b ∷ text))) else
    (if b == 47 then slash_piece text else
    sign_piece (sign_of b (slice_index text 0) (slice_index text 1))))))

-- the piece that begins at the first byte of a text, if there is one
abbrev pub first_piece_of : List ℕ → Option Piece
first_piece_of [] = None
first_piece_of (b ∷ text) = Some (piece_of b text)

-- the piece at this offset, before the tokens after it, where it is a token
abbrev pub put : ℕ → ℕ → Option Terminal → List Lexeme → List Lexeme
put at n None more = more
put at n (Some terminal) more = record { at = at; len = n; terminal = terminal } ∷ more

-- the tokens of a text that stands at this offset, of which the first `skip` bytes belong to what began before it
unfoldable pub lexemes_from : ℕ → ℕ → List ℕ → List Lexeme
lexemes_from at skip [] = []
lexemes_from at (suc skip) (b ∷ text) = lexemes_from (suc at) skip text
lexemes_from at zero (b ∷ text) =
    put at (piece_of b text).len (piece_of b text).terminal (lexemes_from (suc at) ((piece_of b text).len - 1) text)

-- the tokens of a text with their terminals, by longest match
abbrev pub lexemes_of : List ℕ → List Lexeme
lexemes_of = lexemes_from 0 0

abbrev pub token_of : Lexeme → Token
token_of x = record { at = x.at; len = x.len; kind = kind_of x.terminal }

-- the tokens of a text, by longest match
abbrev pub tokens_of : List ℕ → List Token
tokens_of bytes = map token_of (lexemes_of bytes)
