-- Which token a text begins with.
use Rattle.std.specs.Prelude.{ℕ, ◌≡◌, ◌<◌, ◌+◌, ◌^◌, ◌++◌, ◌==◌, ◌&&◌, ◌||◌, not, Bool, true, false, List, [], ◌∷◌, take, drop, slice_index, codes, Option, Some, None, if◌then◌else◌}
use Rattle.std.specs.List.{prefix_len, list_all}
use Rattle.std.specs.Str.{bytes_eq}
use Rattle.std.specs.Fmt.{decimal}
use Rattle.std.specs.Char.{is_ascii_digit, is_ascii_alphabetic}
use Rattle.proof_tokens.specs.declared.tokens.Token.TheVariants as t
use Rattle.proof_tokens.specs.declared.scanner.Piece.{Piece}
use Rattle.proof_tokens.specs.Words.{is_empty, word_of, sign_of}

-- a letter or a digit
abbrev pub is_word_byte : ℕ → Bool
is_word_byte b = is_ascii_alphabetic b || is_ascii_digit b

-- `m` and digits
abbrev pub is_merge : List ℕ → Bool
is_merge [] = false
is_merge (b ∷ bs) = b == 109 && (not (is_empty bs) && list_all is_ascii_digit bs)

-- what is after a word belongs to its token: a `-` after `princess`, a `,` before a digit after `m` and digits
abbrev pub joins : List ℕ → List ℕ → Bool
joins word rest =
    if slice_index rest 0 == 45 then bytes_eq word (codes "princess") else
    slice_index rest 0 == 44 && (is_ascii_digit (slice_index rest 1) && is_merge word)

-- a word goes as far as its letters and digits do, and goes on once where it joins what is after it
abbrev pub word_len : List ℕ → ℕ
word_len text =
    (let n = prefix_len is_word_byte text in
    if joins (take n text) (drop n text) then n + 1 + prefix_len is_word_byte (drop 1 (drop n text)) else n)

abbrev pub piece : ℕ → List ℕ → Piece
piece n text = record { token = word_of (take n text); len = n }

-- a word, `>=`, or one byte
abbrev pub piece_of : ℕ → List ℕ → Piece
piece_of b text =
    if is_word_byte b then piece (word_len (b ∷ text)) (b ∷ text) else
    (if b == 62 && slice_index text 0 == 61 then record { token = t.AtLeast; len = 2 } else
    record { token = sign_of b; len = 1 })

-- the token that a text begins with
abbrev pub first_piece_of : List ℕ → Option Piece
first_piece_of [] = None
first_piece_of (b ∷ text) = Some (piece_of b text)

-- a word that is neither `princess` nor a merge ends before this text
abbrev pub ends_word : List ℕ → Bool
ends_word [] = true
ends_word (b ∷ bs) = not (is_word_byte b) && not (b == 44)

-- no number below 2^32 comes with a text after it that passes the test
abbrev pub HasNoNumber : (List ℕ → Bool) → List ℕ → Type 0
HasNoNumber test text = (n : ℕ) (rest : List ℕ) → n < 2 ^ 32 → test rest ≡ true → text ≡ decimal n ++ rest → ⊥

-- no digit comes
abbrev pub ends_digits : List ℕ → Bool
ends_digits text = not (is_ascii_digit (slice_index text 0))
