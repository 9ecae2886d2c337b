-- Where tokens are refused first.
use Rattle.std.specs.Prelude.{ℕ, ◌≡◌, List, [], ◌∷◌, ◌++◌}
use Rattle.clause_words.specs.Tokens.{size}
use Rattle.clause_words.specs.Reading.{Token}

-- the tokens begin the text of a value
pub record Begins {V : Type 0} (IsValue : V → Type 0) (text : V → List Token) (front : List Token) : Type 0 where
  pub value : V
  pub is_value : IsValue value
  pub more : List Token
  pub parts : text value ≡ front ++ more

-- The tokens are refused with this many bytes left, inside a text: those before begin the text of a value, and together with
-- the next token they do not.
pub record IsRefusedAt {V : Type 0} (IsValue : V → Type 0) (text : V → List Token) (ts : List Token) (left : ℕ) : Type 0 where
  pub front : List Token
  pub back : List Token
  pub whole : ts ≡ front ++ back
  pub begins : Begins IsValue text front
  pub none : (x : Token) (rest : List Token) → back ≡ x ∷ rest → Begins IsValue text (front ++ x ∷ []) → ⊥
  pub inside : (v : V) → IsValue v → text v ≡ front → ⊥
  pub place : size back ≡ left
