-- What it means that a term becomes a formula or a term of a problem.
use Rattle.std.specs.Prelude.{◌≡◌, ◌<◌, ℕ, ℤ, Bool, true, false, List, [], ◌∷◌}
use Rattle.form_typed.specs.Truth.{Meaning, Truth, HasValue}
use Rattle.smt_terms.specs.Operators.{Value, integer, truth}
use Rattle.smt_terms.specs.Evaluation.{HasTruth, Globals, Meant, constant_of}
use Rattle.smt_terms.specs.Translation.{Said, a_formula, a_term}

-- a fact with a sign: the fact, or its negation. `encoding` has a word of the same meaning; both could come from form_typed.
abbrev pub SignedFact : Bool → Type 0 → Type 0
SignedFact true A = A
SignedFact false A = ¬ A

-- the formula or the term has this value in an interpretation at a list of integers
abbrev pub IsValue : Meaning → Said → List ℤ → Value → Type 0
IsValue w (a_formula f) e (truth b) = SignedFact b (Truth w f e)
IsValue w (a_formula f) e (integer v) = ⊥
IsValue w (a_term t) e (integer v) = HasValue w t e (λ x. x ≡ v)
IsValue w (a_term t) e (truth b) = ⊥

-- its value has the property
abbrev pub SaidHas : Meaning → Said → List ℤ → (Value → Type 0) → Type 0
SaidHas w (a_formula f) e P = HasTruth (Truth w f e) P
SaidHas w (a_term t) e P = HasValue w t e (λ v. P (integer v))

-- a constant is among the first n
abbrev pub IsConstantBelow : ℕ → Meant → Type 0
IsConstantBelow n (constant_of k) = k < n
IsConstantBelow n _ = Unit {0}

-- all constants are
abbrev pub AreConstantsBelow : ℕ → Globals → Type 0
AreConstantsBelow n [] = Unit {0}
AreConstantsBelow n (g ∷ gs) = IsConstantBelow n g.1 × AreConstantsBelow n gs
