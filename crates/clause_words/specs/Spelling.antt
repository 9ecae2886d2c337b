-- How integers are written, and which words are the spelling of a value.
use Rattle.std.specs.Prelude.{ℕ, ◌≡◌, ℤ, pos, int_lt, unsigned_abs, Bool, true, false, cond, List, [], ◌∷◌, ◌++◌, Option, Some}
use Rattle.std.specs.List.{list_all}
use Rattle.std.specs.Fmt.{decimal}
use Rattle.clause_words.specs.Tokens.{in_word}

-- an integer
abbrev pub integer_text : ℤ → List ℕ
integer_text k = cond (int_lt k (pos 0)) (45 ∷ []) [] ++ decimal (unsigned_abs k)

-- a byte at least, and no blank and no line feed
abbrev pub is_plain : List ℕ → Bool
is_plain [] = false
is_plain (b ∷ bs) = list_all in_word (b ∷ bs)

-- f reads the words that spell values, and no others
pub record IsSpelling {V : Type 0} (IsValue : V → Type 0) (spell : V → List ℕ) (f : List ℕ → Option V) : Type 0 where
  pub found : (x : List ℕ) (v : V) → f x ≡ Some v → IsValue v × (x ≡ spell v)
  pub again : (v : V) → IsValue v → f (spell v) ≡ Some v
  pub plain : (v : V) → IsValue v → is_plain (spell v) ≡ true
  pub some : V
  pub some_is : IsValue some
