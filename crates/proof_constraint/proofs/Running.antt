-- Reading by a machine, whatever its states and values are: how it runs, and when it reads exactly the texts of the values.
use Rattle.std.specs.Prelude.{List, [], ◌∷◌}
use Rattle.proof_tokens.specs.declared.tokens.Token.{Token}

-- what a token does: nothing takes it, it leads on, or it ends what is read
pub data Step (S V : Type 0) : Type 0 where
  bad : Step S V
  on : S → Step S V
  done : V → Step S V

-- what comes of tokens: the first refused one with those after it, or the value with what is after it
pub data Outcome (V : Type 0) : Type 0 where
  refused : List Token → Outcome V
  read : V → List Token → Outcome V

abbrev pub after : {S V : Type 0} → (S → Outcome V) → Token → List Token → Step S V → Outcome V
after go x xs bad = refused (x ∷ xs)
after go x xs (on s) = go s
after go x xs (done v) = read v xs

unfoldable pub run : {S V : Type 0} → (S → Token → Step S V) → S → List Token → Outcome V
run moves s [] = refused []
run moves s (x ∷ xs) = after (λ z. run moves z xs) x xs (moves s x)
