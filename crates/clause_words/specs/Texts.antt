-- The texts of a line's parts, as tokens.
use Rattle.std.specs.Prelude.{ℕ, List, [], ◌∷◌, ◌++◌}
use Rattle.clause_words.specs.Tokens.{blank, line_feed}
use Rattle.clause_words.specs.Reading.{Token}

-- a value after a blank
abbrev pub field_text : {V : Type 0} → (V → List ℕ) → V → List Token
field_text spell v = blank ∷ spell v ∷ []

-- values, each after a blank, to the end of the line
abbrev pub list_text : {V : Type 0} → (V → List ℕ) → List V → List Token
list_text spell [] = line_feed ∷ []
list_text spell (v ∷ vs) = blank ∷ spell v ∷ list_text spell vs

-- the same up to and with a word
abbrev pub list_to_text : {V : Type 0} → List ℕ → (V → List ℕ) → List V → List Token
list_to_text w spell [] = blank ∷ w ∷ []
list_to_text w spell (v ∷ vs) = blank ∷ spell v ∷ list_to_text w spell vs

abbrev pub both_text : {A B : Type 0} → (A → List Token) → (B → List Token) → (A × B) → List Token
both_text ta tb p = ta p.0 ++ tb p.1

abbrev pub Both : {A B : Type 0} → (A → Type 0) → (B → Type 0) → (A × B) → Type 0
Both P Q p = P p.0 × Q p.1

abbrev pub end_text : Unit {0} → List Token
end_text u = line_feed ∷ []

abbrev pub Always : Unit {0} → Type 0
Always u = Unit {0}
