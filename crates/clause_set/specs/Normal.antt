-- The normal form of a literal.
use Rattle.std.specs.Prelude.{ℕ, ℤ, pos, neg_ℤ, Bool, true, false, not, ◌&&◌, cond, int_le, int_lt, unsigned_abs, List, [], ◌∷◌, map, filter}
use Rattle.std.specs.Int.{int_div_euclid, int_rem_euclid}
use Rattle.std.specs.Ordering.{int_eq}
use Rattle.base_integers.specs.Divides.{divides}
use Rattle.base_integers.specs.Gcd.{gcd}
use Rattle.linear_term.specs.Linear.{Linear}
use Rattle.clause_set.specs.declared.literal.Literal.{Literal}
use Rattle.clause_set.specs.declared.literal.Literal.TheVariants.{Eq, Geq, Div, NDiv}
use Rattle.clause_set.specs.declared.literal.Norm.{Norm}
use Rattle.clause_set.specs.declared.literal.Norm.TheVariants.{True, False, Lit}

-- the greatest common divisor of g and the coefficients
abbrev pub gcd_with : ℤ → List (ℕ × ℤ) → ℤ
gcd_with g [] = g
gcd_with g (p ∷ ps) = gcd_with (gcd g p.1) ps

-- each coefficient divided by g
abbrev pub divided : ℤ → List (ℕ × ℤ) → List (ℕ × ℤ)
divided g ps = map (λ p. (p.0, int_div_euclid p.1 g)) ps

-- the term divided by g, its constant rounded down
abbrev pub quotient : ℤ → Linear → Linear
quotient g t = record { pairs = divided g t.pairs; constant = int_div_euclid t.constant g }

-- each coefficient negated
abbrev pub negated : List (ℕ × ℤ) → List (ℕ × ℤ)
negated ps = map (λ p. (p.0, neg_ℤ p.1)) ps

-- the first coefficient is negative
abbrev pub leads_negative : List (ℕ × ℤ) → Bool
leads_negative [] = false
leads_negative (p ∷ ps) = int_lt p.1 (pos 0)

-- t or −t: the one whose first coefficient is positive
abbrev pub turned : Linear → Linear
turned t = cond (leads_negative t.pairs) (record { pairs = negated t.pairs; constant = neg_ℤ t.constant }) t

-- the coefficients modulo d, from 0 to d − 1, without those that are 0
abbrev pub residues : ℤ → List (ℕ × ℤ) → List (ℕ × ℤ)
residues d ps = filter (λ p. not (int_eq p.1 (pos 0))) (map (λ p. (p.0, int_rem_euclid p.1 d)) ps)

-- the coefficient is from 1 to d − 1
abbrev pub is_residue : ℤ → ℕ × ℤ → Bool
is_residue d p = int_lt (pos 0) p.1 && int_lt p.1 d

-- the term modulo d
abbrev pub residue : ℤ → Linear → Linear
residue d t = record { pairs = residues d t.pairs; constant = int_rem_euclid t.constant d }

-- the truth that does not depend on integers
abbrev pub decided : Bool → Norm
decided true = True
decided false = False

-- the negation of a normal divisibility
abbrev pub denied : Norm → Norm
denied True = False
denied False = True
denied (Lit (Eq t)) = Lit (Eq t)
denied (Lit (Geq t)) = Lit (Geq t)
denied (Lit (Div d t)) = Lit (NDiv d t)
denied (Lit (NDiv d t)) = Lit (Div d t)

-- t = 0 with the greatest common divisor g of its coefficients: false where g does not divide the constant, else
-- divided by g, with a positive first coefficient
abbrev pub reduced_equation : ℤ → Linear → Norm
reduced_equation g t = cond (divides (unsigned_abs g) t.constant) (Lit (Eq (turned (quotient g t)))) False

abbrev pub normal_equation : Linear → List (ℕ × ℤ) → Norm
normal_equation t [] = decided (int_eq t.constant (pos 0))
normal_equation t (p ∷ ps) = reduced_equation (gcd_with (pos 0) (p ∷ ps)) t

-- t ≥ 0: divided by the greatest common divisor of its coefficients, its constant rounded down
abbrev pub normal_inequality : Linear → List (ℕ × ℤ) → Norm
normal_inequality t [] = decided (int_le (pos 0) t.constant)
normal_inequality t (p ∷ ps) = Lit (Geq (quotient (gcd_with (pos 0) (p ∷ ps)) t))

-- d divides r, with the greatest common divisor h of d and the coefficients: false where h does not divide the
-- constant, true where d is h, else divided by h
abbrev pub reduced_divisibility : ℤ → ℤ → Linear → Norm
reduced_divisibility h d r =
    cond (divides (unsigned_abs h) r.constant)
    (cond (int_eq (int_div_euclid d h) (pos 1)) True (Lit (Div (int_div_euclid d h) (quotient h r))))
    False

-- d divides t: the same for t modulo d
abbrev pub normal_divisibility : ℤ → Linear → Norm
normal_divisibility d t = reduced_divisibility (gcd_with d (residues d t.pairs)) d (residue d t)

-- the normal form of a literal
unfoldable pub normal_of : Literal → Norm
normal_of (Eq t) = normal_equation t t.pairs
normal_of (Geq t) = normal_inequality t t.pairs
normal_of (Div d t) = normal_divisibility d t
normal_of (NDiv d t) = denied (normal_divisibility d t)
