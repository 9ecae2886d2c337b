-- What it means that bytes are read as the tokens of a text, and where they are refused first.
use Rattle.std.specs.Prelude.{ℕ, ◌≡◌, true, List, [], ◌∷◌, ◌++◌, length, drop, Some}
use Rattle.proof_tokens.specs.declared.tokens.Token.{Token}
use Rattle.proof_tokens.specs.declared.reading.Refusal.{Refusal}
use Rattle.proof_tokens.specs.declared.reading.Refusal.TheVariants as e
use Rattle.proof_tokens.specs.Scanning.{ends_word, first_piece_of}

-- the bytes begin with these tokens, and the rest stands after them
abbrev pub Cuts : List Token → List ℕ → List ℕ → Type 0
Cuts [] bytes rest = bytes ≡ rest
Cuts (x ∷ xs) bytes rest = (n : ℕ) × (first_piece_of bytes ≡ Some (record { token = x; len = n })) × Cuts xs (drop n bytes) rest

-- the tokens begin the text of a value
pub record Begins {V : Type 0} (IsValue : V → Type 0) (text : V → List Token) (front : List Token) : Type 0 where
  pub value : V
  pub is_value : IsValue value
  pub more : List Token
  pub parts : text value ≡ front ++ more

-- The first refusal of the bytes stands before `back`: the tokens before it begin the text of a value, and together with
-- the next token they do not.
pub record IsFirstProofRefusal {V : Type 0} (IsValue : V → Type 0) (text : V → List Token) (bytes back : List ℕ) : Type 0 where
  pub front : List Token
  pub cut : Cuts front bytes back
  pub begins : Begins IsValue text front
  pub none : (x : Token) (rest : List ℕ) → Cuts (x ∷ []) back rest → Begins IsValue text (front ++ x ∷ []) → ⊥

-- the bytes are refused with this many left, inside a text
pub record IsRefusedAt {V : Type 0} (IsValue : V → Type 0) (text : V → List Token) (bytes : List ℕ) (left : ℕ) : Type 0 where
  pub back : List ℕ
  pub first : IsFirstProofRefusal IsValue text bytes back
  pub inside : (v : V) → IsValue v → text v ≡ first.front → ⊥
  pub place : length back ≡ left

-- what a refusal says: where the first one is; or memory was short
abbrev pub RefusesProof : {V : Type 0} → (V → Type 0) → (V → List Token) → List ℕ → Refusal → Type 0
RefusesProof IsValue text bytes (e.Syntax left) = IsRefusedAt IsValue text bytes left
RefusesProof IsValue text bytes e.Memory = Unit {0}

-- the next token is none of these: it is refused where it stands
abbrev pub RefusesNext : (Token → Type 0) → List ℕ → Refusal → Type 0
RefusesNext P bytes (e.Syntax left) = (length bytes ≡ left) × ((x : Token) (rest : List ℕ) → Cuts (x ∷ []) bytes rest → P x → ⊥)
RefusesNext P bytes e.Memory = ⊥

-- the text of no value begins that of another
abbrev pub IsApart : {V : Type 0} → (V → Type 0) → (V → List Token) → Type 0
IsApart {V} IsValue text = (u v : V) (more : List Token) → IsValue u → IsValue v → text u ≡ text v ++ more → (u ≡ v) × (more ≡ [])

-- none of these tokens comes with the end of a word after it
abbrev pub HasNoneEnded : (Token → Type 0) → List ℕ → Type 0
HasNoneEnded P bytes = (x : Token) (rest : List ℕ) → Cuts (x ∷ []) bytes rest → ends_word rest ≡ true → P x → ⊥
