-- Which texts are spelled as a token of which kind.
use Rattle.std.specs.Prelude.{ℕ, ◌==◌, ◌&&◌, ◌||◌, not, Bool, false, List, [], ◌∷◌, codes}
use Rattle.std.specs.List.{list_all}
use Rattle.std.specs.Str.{bytes_eq}
use Rattle.std.specs.Char.{is_ascii_digit, is_ascii_alphabetic}
use Rattle.pri_tokens.specs.declared.terminals.TokenKind.{TokenKind}
use Rattle.pri_tokens.specs.declared.terminals.TokenKind.TheVariants as k
use Rattle.pri_tokens.specs.Lexemes.{is_white, starts_name, is_name_byte}

-- a letter or `_`, then letters, digits and `_`
abbrev pub is_name : List ℕ → Bool
is_name [] = false
is_name (b ∷ bs) = starts_name b && list_all is_name_byte bs

-- one or more decimal digits
abbrev pub is_number : List ℕ → Bool
is_number [] = false
is_number (b ∷ bs) = is_ascii_digit b && list_all is_ascii_digit bs

-- a `\`, then letters
abbrev pub has_command_form : List ℕ → Bool
has_command_form [] = false
has_command_form (b ∷ bs) = b == 92 && list_all is_ascii_alphabetic bs

abbrev pub words : List (List ℕ)
words = codes "int" ∷ codes "nat" ∷ codes "true" ∷ codes "false" ∷ []

abbrev pub commands : List (List ℕ)
commands = codes "\\universalConstants" ∷ codes "\\existentialConstants" ∷ codes "\\functions" ∷ codes "\\predicates"
    ∷ codes "\\problem" ∷ codes "\\interpolant" ∷ codes "\\forall" ∷ codes "\\exists" ∷ codes "\\part" ∷ codes "\\if"
    ∷ codes "\\then" ∷ codes "\\else" ∷ codes "\\abs" ∷ codes "\\min" ∷ codes "\\max" ∷ []

abbrev pub signs : List (List ℕ)
signs = codes "{" ∷ codes "}" ∷ codes "(" ∷ codes ")" ∷ codes "[" ∷ codes "]" ∷ codes ";" ∷ codes "," ∷ codes "!" ∷ codes "&"
    ∷ codes "|" ∷ codes "->" ∷ codes "<->" ∷ codes "=" ∷ codes "!=" ∷ codes "<" ∷ codes "<=" ∷ codes ">" ∷ codes ">="
    ∷ codes "+" ∷ codes "-" ∷ codes "*" ∷ []

-- the text is one of these
abbrev pub is_one_of : List (List ℕ) → List ℕ → Bool
is_one_of [] text = false
is_one_of (s ∷ ss) text = bytes_eq text s || is_one_of ss text

-- a single byte that is no white space, letter, digit, `_` or sign
abbrev pub is_bad_byte : List ℕ → Bool
is_bad_byte [] = false
is_bad_byte (b ∷ []) = not (is_white b || starts_name b || is_ascii_digit b || is_one_of signs (b ∷ []))
is_bad_byte (b ∷ c ∷ bs) = false

-- the spelling of a token of this kind, comments without end apart
abbrev pub is_spelled : TokenKind → List ℕ → Bool
is_spelled k.Identifier text = is_name text && not (is_one_of words text)
is_spelled k.Number text = is_number text
is_spelled k.Word text = is_one_of words text
is_spelled k.Command text = is_one_of commands text
is_spelled k.Sign text = is_one_of signs text
is_spelled k.Bad text = is_bad_byte text || (has_command_form text && not (is_one_of commands text))
