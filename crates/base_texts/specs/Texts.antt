-- Lists of different texts.
use Rattle.std.specs.Prelude.{ℕ, ◌&&◌, not, Bool, cond, List, [], ◌∷◌, ◌++◌, length, nat_eq, nat_lt, if◌then◌else◌}
use Rattle.std.specs.List.{list_any, position_or_len}
use Rattle.std.specs.Cmp.Lexicographic.{pointwise}

-- the same bytes
abbrev pub is_text : List ℕ → List ℕ → Bool
is_text = pointwise nat_eq

-- it is one of the texts
abbrev pub is_among : List ℕ → List (List ℕ) → Bool
is_among text texts = list_any (is_text text) texts

-- the texts with this one, if it is none of them
abbrev pub with_text : List ℕ → List (List ℕ) → List (List ℕ)
with_text text texts = if is_among text texts then texts else texts ++ text ∷ []

-- the place of a text in a list, from 0 on; the number of texts where it is not there
abbrev pub place : List ℕ → List (List ℕ) → ℕ
place text texts = position_or_len (is_text text) texts

-- some text is not among those given
abbrev pub misses : List (List ℕ) → List (List ℕ) → Bool
misses texts given = list_any (λ t. not (is_among t given)) texts

-- these texts, with those of a list that are among the others; this many at most
abbrev pub picked : List (List ℕ) → ℕ → List (List ℕ) → List (List ℕ) → List (List ℕ)
picked others most found [] = found
picked others most found (t ∷ ts) = picked others most (cond (nat_lt (length found) most && is_among t others) (with_text t found) found) ts

-- the texts, each after this label
abbrev pub each_behind : List ℕ → List (List ℕ) → List ℕ
each_behind label [] = []
each_behind label (t ∷ ts) = label ++ (t ++ each_behind label ts)
