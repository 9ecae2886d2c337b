-- Tokens that the machine takes one after another.
use Rattle.std.specs.Prelude.{ℕ, ◌≡◌, List, [], ◌∷◌}
use Rattle.proof_tokens.specs.declared.tokens.Token.{Token}
use Rattle.proof_tokens.specs.Reading.{Cuts}
use Rattle.proof_tokens.specs.Spellings.{IsRangedToken}
use Rattle.proof_constraint.specs.State.{GivenState}
use Rattle.proof_constraint.specs.Move as m
use Rattle.proof_constraint.specs.Machine.{moves}

-- the tokens lead from one state to the other
abbrev pub LeadOn : GivenState → List Token → GivenState → Type 0
LeadOn z [] y = z ≡ y
LeadOn z (x ∷ xs) y = (w : GivenState) × (m.On w ≡ moves z x) × IsRangedToken x × LeadOn w xs y

-- the tokens of the text up to `rest` lead from one state to the other
pub record ReachesState (z y : GivenState) (text rest : List ℕ) : Type 0 where
  pub tokens : List Token
  pub leads : LeadOn z tokens y
  pub cut : Cuts tokens text rest
