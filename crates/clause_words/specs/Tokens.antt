-- Bytes as tokens: a blank, a line feed, or a word, which goes on to the next blank or line feed.
use Rattle.std.specs.Prelude.{ℕ, ◌+◌, ◌==◌, ◌||◌, not, Bool, true, false, List, [], ◌∷◌, ◌++◌, length, cond}

-- a blank or a line feed
abbrev pub separates : ℕ → Bool
separates b = b == 32 || b == 10

abbrev pub in_word : ℕ → Bool
in_word b = not (separates b)

-- the token is a blank or a line feed
abbrev pub is_separator : List ℕ → Bool
is_separator [] = false
is_separator (b ∷ bs) = separates b

-- one more byte of a word before the tokens
abbrev pub joined : ℕ → List (List ℕ) → List (List ℕ)
joined b [] = (b ∷ []) ∷ []
joined b (x ∷ xs) = cond (is_separator x) ((b ∷ []) ∷ x ∷ xs) ((b ∷ x) ∷ xs)

-- the tokens of bytes
unfoldable pub tokens : List ℕ → List (List ℕ)
tokens [] = []
tokens (b ∷ bs) = cond (separates b) ((b ∷ []) ∷ tokens bs) (joined b (tokens bs))

-- the bytes of tokens, one after another
abbrev pub spelled : List (List ℕ) → List ℕ
spelled [] = []
spelled (x ∷ xs) = x ++ spelled xs

-- how many bytes tokens have
abbrev pub size : List (List ℕ) → ℕ
size [] = 0
size (x ∷ xs) = length x + size xs

-- a word before tokens, or none
abbrev pub with_word : List ℕ → List (List ℕ) → List (List ℕ)
with_word [] ts = ts
with_word (b ∷ bs) ts = (b ∷ bs) ∷ ts

-- no word goes on here
abbrev pub stops : List ℕ → Bool
stops [] = true
stops (b ∷ bs) = separates b

abbrev pub blank : List ℕ
blank = 32 ∷ []

abbrev pub line_feed : List ℕ
line_feed = 10 ∷ []
