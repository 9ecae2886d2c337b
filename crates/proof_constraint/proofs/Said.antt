-- What each state says of the tokens before it: the text is canonical, so the state determines them.
use Rattle.std.specs.Prelude.{ℕ, ◌≡◌, ◌≢◌, ◌≤◌, ◌<◌, ◌+◌, ◌^◌, ℤ, pos, Bool, true, false, cond, unsigned_abs, List, [], ◌∷◌, ◌++◌, Option, Some, None}
use Rattle.proof_tokens.specs.declared.tokens.Token.{Token}
use Rattle.proof_tokens.specs.declared.tokens.Token.TheVariants as t
use Rattle.linear_term.specs.Linear.{IsNormal}
use Rattle.proof_constraint.specs.declared.draft.Divisor.{Divisor}
use Rattle.clause_set.specs.declared.literal.Literal.{Literal}
use Rattle.proof_constraint.specs.declared.draft.Draft.{Draft}
use Rattle.proof_constraint.specs.Behind.{Behind}
use Rattle.proof_constraint.specs.Behind as b
use Rattle.proof_constraint.specs.State.{GivenState}
use Rattle.proof_constraint.specs.State as s
use Rattle.proof_constraint.specs.Text.{AreSaidLiterals, AreClauses, IsSaidDivisor, sign_text, pairs_text, sum_text, divisor_text, relation_text, literal_text, clause_text}

-- the texts of a list, each before a blank and the separator
abbrev pub before : {A : Type 0} → (A → List Token) → Token → List A → List Token
before text sign [] = []
before text sign (x ∷ xs) = text x ++ t.Blank ∷ sign ∷ before text sign xs

-- no pair has come
abbrev pub is_first : List (ℕ × ℤ) → Bool
is_first [] = true
is_first (p ∷ ps) = false

-- the tokens up to the clauses' and literals' ends
abbrev pub said_before : List (List Literal) → List Literal → List Token
said_before d c = t.Gives ∷ before clause_text t.Or d ++ before literal_text t.And c

abbrev pub said_draft : Draft → List Token
said_draft g = said_before g.clauses g.literals ++ divisor_text g.divisor ++ pairs_text true g.sum.pairs

abbrev pub said_behind : Behind → List Token
said_behind (b.Start g) = said_draft g
said_behind (b.Sum g) = said_draft g
said_behind (b.Sign g minus) = said_draft g ++ t.Blank ∷ cond minus t.Minus t.Plus ∷ []
said_behind (b.Number g minus n) = said_draft g ++ sign_text (is_first g.sum.pairs) minus ++ t.Number n ∷ []
said_behind (b.Relation d c s bound) = said_before d c ++ sum_text s ++ relation_text bound
said_behind (b.Clause d c) = t.Gives ∷ before clause_text t.Or d ++ clause_text c
said_behind b.False = t.Gives ∷ t.Blank ∷ t.False ∷ []

abbrev pub said : GivenState → List Token
said (s.Behind w) = said_behind w
said (s.Blank w) = said_behind w ++ t.Blank ∷ []
said (s.Minus g) = said_draft g ++ t.Blank ∷ t.Minus ∷ []
said (s.Times g minus n) = said_draft g ++ sign_text (is_first g.sum.pairs) minus ++ t.Number n ∷ t.Times ∷ []

-- the least name after these pairs
abbrev pub above : ℕ → List (ℕ × ℤ) → ℕ
above n [] = n
above n (p ∷ ps) = above (p.0 + 1) ps

-- names rise and fit, coefficients are in the range and not 0
abbrev pub ArePairs : ℕ → List (ℕ × ℤ) → Type 0
ArePairs n [] = Unit {0}
ArePairs n (p ∷ ps) = (n ≤ p.0) × (p.0 < 2 ^ 32) × (p.1 ≢ pos 0) × (unsigned_abs p.1 < 2 ^ 127) × ArePairs (p.0 + 1) ps

abbrev pub HasDivisor : Option Divisor → Type 0
HasDivisor None = Unit {0}
HasDivisor (Some v) = IsSaidDivisor v.size

pub record IsDraft (g : Draft) : Type 0 where
  pub clauses : AreClauses g.clauses
  pub literals : AreSaidLiterals g.literals
  pub divisor : HasDivisor g.divisor
  pub pairs : ArePairs 0 g.sum.pairs
  pub least : g.least ≡ above 0 g.sum.pairs

-- the state is one that the machine comes to
abbrev pub IsFineBehind : Behind → Type 0
IsFineBehind (b.Start g) = IsDraft g × (g.sum.pairs ≡ [])
IsFineBehind (b.Sum g) = IsDraft g × (is_first g.sum.pairs ≡ false)
IsFineBehind (b.Sign g minus) = IsDraft g × (is_first g.sum.pairs ≡ false)
IsFineBehind (b.Number g minus n) = IsDraft g × (n < 2 ^ 127) × ((n ≡ 0) → (is_first g.sum.pairs ≡ true) × (minus ≡ false))
IsFineBehind (b.Relation d c s bound) = AreClauses d × AreSaidLiterals c × IsNormal s
IsFineBehind (b.Clause d c) = AreClauses d × AreSaidLiterals c
IsFineBehind b.False = Unit {0}

abbrev pub IsFine : GivenState → Type 0
IsFine (s.Behind w) = IsFineBehind w
IsFine (s.Blank w) = IsFineBehind w × (w ≢ b.False)
IsFine (s.Minus g) = IsDraft g × (g.sum.pairs ≡ [])
IsFine (s.Times g minus n) = IsDraft g × (n < 2 ^ 127) × (1 < n) × (g.least < 2 ^ 32)
