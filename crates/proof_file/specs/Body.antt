-- The part of a file that holds a proof.
use Rattle.std.specs.List.{join_with_byte, slice_split}
use Rattle.std.specs.Prelude.{ℕ, ◌==◌, Bool, List, [], ◌∷◌, codes, bytes_eq, Option, Some, None, cond, option_map, unwrap_or}

-- the lines of a file, as its line feeds part them: after the last line feed stands one more line, which may be empty
abbrev pub lines_of : List ℕ → List (List ℕ)
lines_of bytes = slice_split (λ b. b == 10) bytes

abbrev pub is_marker : List ℕ → Bool
is_marker line = bytes_eq line (codes "proof:")

-- the lines after the first one that is `proof:`, where one is so
abbrev pub behind_marker : List (List ℕ) → Option (List (List ℕ))
behind_marker [] = None
behind_marker (l ∷ ls) = cond (is_marker l) (Some ls) (behind_marker ls)

-- the bytes after the first line that is `proof:`, or all where no line is so
abbrev pub body : List ℕ → List ℕ
body bytes = unwrap_or (option_map (join_with_byte 10) (behind_marker (lines_of bytes))) bytes
