-- Which texts are tokens, and how a text is divided into its longest tokens.
use Rattle.std.specs.Prelude.{ℕ, ◌≡◌, ◌<◌, ◌+◌, ◌==◌, ◌&&◌, Bool, true, false, List, [], ◌∷◌, ◌++◌, length, if◌then◌else◌}
use Rattle.std.specs.List.{list_all}
use Rattle.std.specs.Char.{is_ascii_digit, is_ascii_hexdigit}
use Rattle.smt_tokens.specs.declared.terminals.Terminal.{Terminal}
use Rattle.smt_tokens.specs.declared.terminals.Terminal.TheVariants as t
use Rattle.smt_tokens.specs.declared.terminals.Lexeme.{Lexeme}
use Rattle.smt_tokens.specs.Bytes.{is_white, is_in_line, is_symbol_byte, is_string_byte, is_bar_byte, is_binary_digit}

-- one or more bytes that pass a test
abbrev pub is_run : (ℕ → Bool) → List ℕ → Bool
is_run p [] = false
is_run p (b ∷ bs) = p b && list_all p bs

-- what a test says of the first byte; false where there is none
abbrev pub begins : (ℕ → Bool) → List ℕ → Bool
begins p [] = false
begins p (b ∷ bs) = p b

abbrev pub is_none : List ℕ → Bool
is_none [] = true
is_none (b ∷ bs) = false

-- `0`, or another digit with digits after it
abbrev pub is_numeral : List ℕ → Bool
is_numeral [] = false
is_numeral (b ∷ bs) = is_ascii_digit b && (if b == 48 then is_none bs else list_all is_ascii_digit bs)

-- printable bytes that are no quotes, and pairs of quotes
pub data IsString : List ℕ → Type 0 where
  nothing : {text : List ℕ} → text ≡ [] → IsString text
  byte : {text : List ℕ} (b : ℕ) (more : List ℕ) → (b == 34) ≡ false → is_string_byte b ≡ true → IsString more → text ≡ b ∷ more → IsString text
  pair : {text : List ℕ} (more : List ℕ) → IsString more → text ≡ 34 ∷ 34 ∷ more → IsString text

-- the text is spelled as a token of this kind
pub data IsSpelled : Terminal → List ℕ → Type 0 where
  opens : {text : List ℕ} → text ≡ 40 ∷ [] → IsSpelled t.Open text
  closes : {text : List ℕ} → text ≡ 41 ∷ [] → IsSpelled t.Close text
  numeral : {text : List ℕ} → is_numeral text ≡ true → IsSpelled t.Numeral text
  decimal : {text : List ℕ} (whole digits : List ℕ) → is_numeral whole ≡ true → is_run is_ascii_digit digits ≡ true → text ≡ whole ++ 46 ∷ digits → IsSpelled t.Decimal text
  hexadecimal : {text : List ℕ} (digits : List ℕ) → is_run is_ascii_hexdigit digits ≡ true → text ≡ 35 ∷ 120 ∷ digits → IsSpelled t.Hash text
  binary : {text : List ℕ} (digits : List ℕ) → is_run is_binary_digit digits ≡ true → text ≡ 35 ∷ 98 ∷ digits → IsSpelled t.Hash text
  string : {text : List ℕ} (inner : List ℕ) → IsString inner → text ≡ 34 ∷ inner ++ 34 ∷ [] → IsSpelled t.StringLiteral text
  keyword : {text : List ℕ} (name : List ℕ) → is_run is_symbol_byte name ≡ true → text ≡ 58 ∷ name → IsSpelled t.Keyword text
  symbol : {text : List ℕ} → is_run is_symbol_byte text ≡ true → begins is_ascii_digit text ≡ false → IsSpelled t.Symbol text
  quoted : {text : List ℕ} (inner : List ℕ) → list_all is_bar_byte inner ≡ true → text ≡ 124 ∷ inner ++ 124 ∷ [] → IsSpelled t.Quoted text

-- numerals and decimals
abbrev pub is_number : Terminal → Bool
is_number t.Numeral = true
is_number t.Decimal = true
is_number _ = false

-- A text with this rest after it is a token of this kind. A quote after a string would belong to it, and a number is parted from
-- what stands after it: bytes of which symbols are made, of which the first is a digit, are one number or no token.
pub record IsScriptToken (terminal : Terminal) (front rest : List ℕ) : Type 0 where
  pub spelled : IsSpelled terminal front
  pub ended : terminal ≡ t.StringLiteral → begins (λ b. b == 34) rest ≡ false
  pub parted : is_number terminal ≡ true → begins is_symbol_byte rest ≡ false

-- this many bytes are the longest token at the front of a text
pub record IsLongestPiece (terminal : Terminal) (front rest : List ℕ) : Type 0 where
  pub token : IsScriptToken terminal front rest
  pub longest : (other : Terminal) (longer behind : List ℕ) → longer ++ behind ≡ front ++ rest → length front < length longer → IsScriptToken other longer behind → ⊥

-- a byte of white space; or a `;` with all bytes after it that end no line
pub data IsScriptBlank : List ℕ → List ℕ → Type 0 where
  white : {front rest : List ℕ} (b : ℕ) → is_white b ≡ true → front ≡ b ∷ [] → IsScriptBlank front rest
  comment : {front rest : List ℕ} (inner : List ℕ) → list_all is_in_line inner ≡ true → begins is_in_line rest ≡ false → front ≡ 59 ∷ inner → IsScriptBlank front rest

-- a string or a symbol between bars that does not end
pub data IsUnended : List ℕ → Type 0 where
  string : {text : List ℕ} (inner : List ℕ) → IsString inner → text ≡ 34 ∷ inner → IsUnended text
  bars : {text : List ℕ} (inner : List ℕ) → list_all is_bar_byte inner ≡ true → text ≡ 124 ∷ inner → IsUnended text

-- no white space, comment or token begins the text, and it is no string or symbol without its end
pub record IsBad (text : List ℕ) : Type 0 where
  pub some : text ≡ [] → ⊥
  pub blank : (front rest : List ℕ) → text ≡ front ++ rest → IsScriptBlank front rest → ⊥
  pub token : (terminal : Terminal) (front rest : List ℕ) → text ≡ front ++ rest → IsScriptToken terminal front rest → ⊥
  pub open_ended : IsUnended text → ⊥

-- The text, which stands at this offset, is these tokens in order, each the longest that begins there, parted by white space
-- and comments; where the text ends in a string or between bars, or where nothing begins, that is the last one.
pub data IsScriptTokenized : ℕ → List ℕ → List Lexeme → Type 0 where
  ends : {at : ℕ} {text : List ℕ} → text ≡ [] → IsScriptTokenized at text []
  blank : {at : ℕ} {text : List ℕ} {found : List Lexeme} (front rest : List ℕ) → text ≡ front ++ rest → IsScriptBlank front rest
      → IsScriptTokenized (at + length front) rest found → IsScriptTokenized at text found
  token : {at : ℕ} {text : List ℕ} {found : List Lexeme} (terminal : Terminal) (front rest : List ℕ) → text ≡ front ++ rest → IsLongestPiece terminal front rest
      → IsScriptTokenized (at + length front) rest found → IsScriptTokenized at text ((record { at = at; len = length front; terminal = terminal }) ∷ found)
  unfinished : {at : ℕ} {text : List ℕ} → IsUnended text → IsScriptTokenized at text ((record { at = at; len = length text; terminal = t.Unfinished }) ∷ [])
  bad : {at : ℕ} {text : List ℕ} → IsBad text → IsScriptTokenized at text ((record { at = at; len = length text; terminal = t.Bad }) ∷ [])
