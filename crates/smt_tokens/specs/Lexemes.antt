-- Where the tokens of a script begin and end, by longest match.
use Rattle.std.specs.Prelude.{ℕ, zero, suc, ◌+◌, ◌-◌, ◌==◌, Bool, true, false, List, [], ◌∷◌, length, drop, slice_index, Option, Some, None, if◌then◌else◌}
use Rattle.std.specs.List.{prefix_len}
use Rattle.std.specs.Char.{is_ascii_digit, is_ascii_hexdigit}
use Rattle.smt_tokens.specs.declared.terminals.Terminal.{Terminal}
use Rattle.smt_tokens.specs.declared.terminals.Terminal.TheVariants as t
use Rattle.smt_tokens.specs.declared.terminals.Lexeme.{Lexeme}
use Rattle.smt_tokens.specs.declared.scanner.Piece.{Piece}
use Rattle.smt_tokens.specs.declared.strings.Ending.{Ending}
use Rattle.smt_tokens.specs.declared.strings.Ending.TheVariants as e
use Rattle.smt_tokens.specs.Bytes.{is_white, is_in_line, is_symbol_byte, is_string_byte, is_bar_byte, is_binary_digit}
use Rattle.smt_tokens.specs.Tokens.{begins}

abbrev pub blank : ℕ → Piece
blank n = record { len = n; terminal = None }

abbrev pub named : ℕ → Terminal → Piece
named n terminal = record { len = n; terminal = Some terminal }

-- no token begins at the byte before this text
abbrev pub bad : List ℕ → Piece
bad text = named (1 + length text) t.Bad

-- the token of some bytes and this many more of a run, which is not empty, at the byte before this text
abbrev pub marked : ℕ → ℕ → Terminal → List ℕ → Piece
marked front zero terminal text = bad text
marked front (suc n) terminal text = named (front + suc n) terminal

-- the length of a dot with digits after it, 0 where there is none
abbrev pub fraction_of : ℕ → ℕ
fraction_of zero = 0
fraction_of (suc n) = 2 + n

abbrev pub fraction_len : List ℕ → ℕ
fraction_len [] = 0
fraction_len (b ∷ text) = if b == 46 then fraction_of (prefix_len is_ascii_digit text) else 0

-- a numeral of n digits, or a decimal with this many bytes after them
abbrev pub number_piece : ℕ → ℕ → Piece
number_piece n zero = named n t.Numeral
number_piece n (suc m) = named (n + suc m) t.Decimal

-- a token before this rest, at the byte before a text; none where the rest begins with a byte of a symbol
abbrev pub parted : List ℕ → List ℕ → Piece → Piece
parted text rest piece = if begins is_symbol_byte rest then bad text else piece

-- what begins at the byte before a text with n digits of a numeral, after which this text stands
abbrev pub number_before : List ℕ → ℕ → List ℕ → Piece
number_before text n behind = parted text (drop (fraction_len behind) behind) (number_piece n (fraction_len behind))

-- how many digits of a numeral stand after its first one: none after a 0
abbrev pub more_digits : ℕ → List ℕ → ℕ
more_digits b text = if b == 48 then 0 else prefix_len is_ascii_digit text

-- what begins at a `#` with the text after it
abbrev pub hash_piece : List ℕ → Piece
hash_piece text =
    if slice_index text 0 == 120 then marked 2 (prefix_len is_ascii_hexdigit (drop 1 text)) t.Hash text else
    (if slice_index text 0 == 98 then marked 2 (prefix_len is_binary_digit (drop 1 text)) t.Hash text else
    bad text)

-- How a string ends, n bytes of which came before this text, and where `quote` says that the byte before it is a `"` that
-- begins no pair: at the first `"` that is none of a pair, unless a byte that no string has comes before.
abbrev pub ending_from : ℕ → Bool → List ℕ → Ending
ending_from n true [] = e.Closed n
ending_from n false [] = e.Missing
ending_from n true (b ∷ text) = if b == 34 then ending_from (suc n) false text else e.Closed n
ending_from n false (b ∷ text) =
    if b == 34 then ending_from (suc n) true text else
    (if is_string_byte b then ending_from (suc n) false text else e.Forbidden)

-- how the string ends that begins at the `"` before this text
abbrev pub string_ending_of : List ℕ → Ending
string_ending_of = ending_from 0 false

-- how a symbol ends that begins at the `|` before this text, by the text after its bytes: n of them
abbrev pub bars_end : ℕ → List ℕ → Ending
bars_end n [] = e.Missing
bars_end n (b ∷ text) = if b == 124 then e.Closed (1 + n) else e.Forbidden

abbrev pub bars_ending_of : List ℕ → Ending
bars_ending_of text = bars_end (prefix_len is_bar_byte text) (drop (prefix_len is_bar_byte text) text)

-- a string or a symbol that begins at the `"` or `|` before this text
abbrev pub enclosed : Terminal → List ℕ → Ending → Piece
enclosed terminal text (e.Closed n) = named (1 + n) terminal
enclosed terminal text e.Forbidden = bad text
enclosed terminal text e.Missing = named (1 + length text) t.Unfinished

-- the longest token, or the white space or comment, that begins at the byte b with the text after it
abbrev pub piece_of : ℕ → List ℕ → Piece
piece_of b text =
    if is_white b then blank 1 else
    (if b == 59 then blank (1 + prefix_len is_in_line text) else
    (if b == 40 then named 1 t.Open else
    (if b == 41 then named 1 t.Close else
    (if is_ascii_digit b then number_before text (1 + more_digits b text) (drop (more_digits b text) text) else
    (if is_symbol_byte b then named (1 + prefix_len is_symbol_byte text) t.Symbol else
    (if b == 58 then marked 1 (prefix_len is_symbol_byte text) t.Keyword text else
    (if b == 35 then hash_piece text else
    (if b == 34 then enclosed t.StringLiteral text (string_ending_of text) else
    (if b == 124 then enclosed t.Quoted text (bars_ending_of text) else
    bad text)))))))))

-- the piece that begins at the first byte of a text, if there is one
abbrev pub first_piece_of : List ℕ → Option Piece
first_piece_of [] = None
first_piece_of (b ∷ text) = Some (piece_of b text)

-- the piece at this offset, before the tokens after it, where it is a token
abbrev pub put : ℕ → ℕ → Option Terminal → List Lexeme → List Lexeme
put at n None more = more
put at n (Some terminal) more = record { at = at; len = n; terminal = terminal } ∷ more

-- the tokens of a text that stands at this offset, of which the first `skip` bytes belong to what began before it
unfoldable pub lexemes_from : ℕ → ℕ → List ℕ → List Lexeme
lexemes_from at skip [] = []
lexemes_from at (suc skip) (b ∷ text) = lexemes_from (suc at) skip text
lexemes_from at zero (b ∷ text) =
    put at (piece_of b text).len (piece_of b text).terminal (lexemes_from (suc at) ((piece_of b text).len - 1) text)

-- the tokens of a text, by longest match
abbrev pub lexemes_of : List ℕ → List Lexeme
lexemes_of = lexemes_from 0 0
