-- Linear terms over the integers: what they are, their coefficients and their value.
use Rattle.std.specs.Prelude.{ℕ, ◌+◌, ◌<◌, ◌^◌, ◌≢◌, ℤ, pos, ◌+ℤ◌, ◌*ℤ◌, List, [], ◌∷◌, ◌++◌, All, filter, Bool, true, false, not, cond, nat_eq}
use Rattle.base_integers.specs.Entry.{entry}
use Rattle.linear_term.specs.Range.{InRange}

-- a linear term: names with their coefficients, and a constant
pub record Linear : Type 0 where
  pub pairs : List (ℕ × ℤ)
  pub constant : ℤ

-- the sum of f x k over the pairs of a name x and a coefficient k
abbrev pub total : (ℕ → ℤ → ℤ) → List (ℕ × ℤ) → ℤ
total f [] = pos 0
total f (p ∷ ps) = f p.0 p.1 +ℤ total f ps

-- k where the names x and y are one, else 0
abbrev pub coef_at : ℕ → ℕ → ℤ → ℤ
coef_at x y k = cond (nat_eq y x) k (pos 0)

-- the coefficient of the name x in the term t: the sum of those that stand with x, so 0 where x does not occur
unfoldable pub coef_of : Linear → ℕ → ℤ
coef_of t x = total (coef_at x) t.pairs

-- k times the entry of e at the name y
abbrev pub value_at : List ℤ → ℕ → ℤ → ℤ
value_at e y k = k *ℤ entry e y

-- the value of the term t at the integers e: each coefficient times the entry at its name, and the constant
unfoldable pub value_of : Linear → List ℤ → ℤ
value_of t e = total (value_at e) t.pairs +ℤ t.constant

-- the names of a list of pairs rise, and the first is at least n
abbrev pub IsRisingFrom : ℕ → List (ℕ × ℤ) → Type 0
IsRisingFrom n [] = Unit {0}
IsRisingFrom n (p ∷ ps) = (n < p.0 + 1) × IsRisingFrom (p.0 + 1) ps

-- every name of the term t is below n
abbrev pub IsOver : ℕ → Linear → Type 0
IsOver n t = All (λ p. p.0 < n) t.pairs

-- t is reduced: its names rise, and no coefficient is 0
pub record IsReduced (t : Linear) : Type 0 where
  pub rising : IsRisingFrom 0 t.pairs
  pub not_zero : All (λ p. p.1 ≢ pos 0) t.pairs

-- a coefficient as a term holds it: in the range and not 0
pub record IsCoefficient (k : ℤ) : Type 0 where
  pub in_range : InRange k
  pub not_zero : k ≢ pos 0

-- t is a linear term in its normal form: rising names below 2^32, no coefficient 0, all numbers in the range
pub record IsNormal (t : Linear) : Type 0 where
  pub rising : IsRisingFrom 0 t.pairs
  pub coefficients : All (λ p. IsCoefficient p.1) t.pairs
  pub names : IsOver (2 ^ 32) t
  pub constant : InRange t.constant

-- whether the name x occurs among the pairs
abbrev pub has_name : List (ℕ × ℤ) → ℕ → Bool
has_name [] x = false
has_name (p ∷ ps) x = cond (nat_eq p.0 x) true (has_name ps x)

-- whether the name x occurs in the term t
unfoldable pub mentions : Linear → ℕ → Bool
mentions t x = has_name t.pairs x

-- the term t but for what stands with the name x
unfoldable pub without : Linear → ℕ → Linear
without t x = record { pairs = filter (λ p. not (nat_eq p.0 x)) t.pairs; constant = t.constant }

-- the term that is the number k
abbrev pub number : ℤ → Linear
number k = record { pairs = []; constant = k }

-- the term that is the name x, with coefficient 1
abbrev pub name : ℕ → Linear
name x = record { pairs = (x, pos 1) ∷ []; constant = pos 0 }

-- the term t and the monomial k·x after its others
abbrev pub with_monomial : Linear → ℕ → ℤ → Linear
with_monomial t x k = record { pairs = t.pairs ++ (x, k) ∷ []; constant = t.constant }
