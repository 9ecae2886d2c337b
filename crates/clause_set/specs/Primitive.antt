-- Literals in lowest terms, as normal forms have them.
use Rattle.std.specs.Prelude.{◌≡◌, ◌⊎◌, ℕ, ℤ, pos, negsuc, ◌+ℤ◌, ◌≤ℤ◌, ◌<ℤ◌, List, [], ◌∷◌, All, Some}
use Rattle.std.specs.List.{flat_map}
use Rattle.base_integers.specs.Divides.{Divides}
use Rattle.base_integers.specs.Gcd.{gcd}
use Rattle.linear_term.specs.Linear.{Linear}
use Rattle.clause_set.specs.declared.literal.Literal.{Literal}
use Rattle.clause_set.specs.declared.literal.Literal.TheVariants.{Eq, Geq, Div, NDiv}
use Rattle.clause_set.specs.Clauses.{slack, literals_of}
use Rattle.clause_set.specs.Normal.{negated, normal_of}

-- no number but 1 divides d and all the coefficients
abbrev pub AreCoprime : ℤ → List (ℕ × ℤ) → Type 0
AreCoprime d ps = (g : ℤ) → pos 0 <ℤ g → Divides g d → All (λ p. Divides g p.1) ps → g ≡ pos 1

-- the first coefficient is positive
abbrev pub LeadsPositive : List (ℕ × ℤ) → Type 0
LeadsPositive [] = ⊥
LeadsPositive (p ∷ ps) = pos 0 <ℤ p.1

-- t in lowest terms modulo d: d is above 1, the coefficients lie from 1 to d − 1 and the constant from 0, and no number
-- but 1 divides d and the coefficients
pub record IsReducedModulo (d : ℤ) (t : Linear) : Type 0 where
  pub divisor : pos 1 <ℤ d
  pub positive : All (λ p. pos 0 <ℤ p.1) t.pairs
  pub below : All (λ p. p.1 <ℤ d) t.pairs
  pub constant : (pos 0 ≤ℤ t.constant) × (t.constant <ℤ d)
  pub coprime : AreCoprime d t.pairs

-- the literal is in lowest terms: the coefficients of an equation or an inequality are coprime (all numbers divide 0), an
-- equation's first one is positive, and a divisibility is reduced modulo its divisor
abbrev pub IsPrimitive : Literal → Type 0
IsPrimitive (Eq t) = AreCoprime (pos 0) t.pairs × LeadsPositive t.pairs
IsPrimitive (Geq t) = AreCoprime (pos 0) t.pairs
IsPrimitive (Div d t) = IsReducedModulo d t
IsPrimitive (NDiv d t) = IsReducedModulo d t

-- some name occurs, and where it is the only one its coefficient satisfies U
abbrev pub IsSingleWith : (ℤ → Type 0) → List (ℕ × ℤ) → Type 0
IsSingleWith U [] = ⊥
IsSingleWith U (p ∷ []) = U p.1
IsSingleWith U (p ∷ q ∷ ps) = Unit {0}

abbrev pub IsUnit : ℤ → Type 0
IsUnit a = (a ≡ pos 1) ⊎ (a ≡ negsuc 0)

-- some name occurs; a single one has the coefficient 1 in an equation, 1 or −1 in a bound, and one coprime to the divisor
abbrev pub IsShaped : Literal → Type 0
IsShaped (Eq t) = IsSingleWith (λ a. a ≡ pos 1) t.pairs
IsShaped (Geq t) = IsSingleWith IsUnit t.pairs
IsShaped (Div d t) = IsSingleWith (λ a. gcd a d ≡ pos 1) t.pairs
IsShaped (NDiv d t) = IsSingleWith (λ a. gcd a d ≡ pos 1) t.pairs

-- the normal forms of literals, without those that are true or false
abbrev pub normals : List Literal → List Literal
normals ls = flat_map (λ l. literals_of (normal_of l)) ls

-- bounds of the literals leave a linear form p no value: p is at least −j and at most k, which is less
pub record HasEmptyInterval (ls : List Literal) : Type 0 where
  pub form : List (ℕ × ℤ)
  pub j : ℤ
  pub k : ℤ
  pub low : slack ls form ≡ Some j
  pub high : slack ls (negated form) ≡ Some k
  pub empty : (j +ℤ k) <ℤ pos 0
