-- How a text is divided into its longest tokens.
use Rattle.std.specs.Prelude.{ℕ, suc, ◌≡◌, ◌≤◌, ◌<◌, ◌+◌, true, List, [], ◌∷◌, length, take, drop, slice_index, ◌⊎◌}
use Rattle.std.specs.List.{prefix_len}
use Rattle.pri_tokens.specs.declared.terminals.TokenKind.{TokenKind}
use Rattle.pri_tokens.specs.declared.terminals.TokenKind.TheVariants as k
use Rattle.pri_tokens.specs.declared.terminals.Token.{Token}
use Rattle.pri_tokens.specs.Kinds.{is_spelled}
use Rattle.pri_tokens.specs.Lexemes.{is_white, is_not_line_feed}

-- a `*/` stands at this place
abbrev pub Closes : List ℕ → ℕ → Type 0
Closes text i = (slice_index text i ≡ 42) × (slice_index text (suc i) ≡ 47)

-- the text begins with a `//` comment of n bytes: up to the first line feed, or to the end
pub record IsLineComment (text : List ℕ) (n : ℕ) : Type 0 where
  pub inner : List ℕ
  pub parts : text ≡ 47 ∷ 47 ∷ inner
  pub end : n ≡ 2 + prefix_len is_not_line_feed inner

-- the text begins with a `/*` comment of n bytes: up to and with the first `*/`
pub record IsBlockComment (text : List ℕ) (n : ℕ) : Type 0 where
  pub inner : List ℕ
  pub parts : text ≡ 47 ∷ 42 ∷ inner
  pub place : ℕ
  pub closes : Closes inner place
  pub first : (i : ℕ) → i < place → Closes inner i → ⊥
  pub end : n ≡ place + 4

-- the text begins with a `/*`, and no `*/` follows
pub record IsOpenComment (text : List ℕ) : Type 0 where
  pub inner : List ℕ
  pub parts : text ≡ 47 ∷ 42 ∷ inner
  pub open_ended : (i : ℕ) → Closes inner i → ⊥

abbrev pub IsComment : List ℕ → ℕ → Type 0
IsComment text n = IsLineComment text n ⊎ IsBlockComment text n

-- the first n bytes of the text are a token of this kind; a comment without end is bad, up to the end of the file
abbrev pub IsToken : TokenKind → List ℕ → ℕ → Type 0
IsToken kind text n = (is_spelled kind (take n text) ≡ true) ⊎ ((kind ≡ k.Bad) × IsOpenComment text × (n ≡ length text))

-- the longest token that begins the text is of this kind and has n bytes, and no comment begins there
pub record IsLongest (kind : TokenKind) (text : List ℕ) (n : ℕ) : Type 0 where
  pub some : 1 ≤ n
  pub within : n ≤ length text
  pub token : IsToken kind text n
  pub longest : (m : ℕ) (other : TokenKind) → n < m → m ≤ length text → IsToken other text m → ⊥
  pub no_comment : (m : ℕ) → IsComment text m → ⊥

-- the first n bytes are a byte of white space or a comment
pub record IsBlank (text : List ℕ) (n : ℕ) : Type 0 where
  pub some : 1 ≤ n
  pub within : n ≤ length text
  pub blank : ((n ≡ 1) × (is_white (slice_index text 0) ≡ true)) ⊎ IsComment text n

-- the text, which stands at this offset, is these tokens in order, each the longest that begins there, parted by white
-- space and comments
pub data IsTokenized : ℕ → List ℕ → List Token → Type 0 where
  ends : {at : ℕ} {text : List ℕ} → text ≡ [] → IsTokenized at text []
  blank : {at : ℕ} {text : List ℕ} {found : List Token} (n : ℕ) → IsBlank text n → IsTokenized (at + n) (drop n text) found
      → IsTokenized at text found
  token : {at : ℕ} {text : List ℕ} {found : List Token} (n : ℕ) (kind : TokenKind) → IsLongest kind text n
      → IsTokenized (at + n) (drop n text) found → IsTokenized at text ((record { at = at; len = n; kind = kind }) ∷ found)
