-- The literal that a formula with a term for each of its names is, in canonical form: atoms that say the same of the constants,
-- up to a factor and a sign, have one variable.
use Rattle.std.specs.Prelude.{ℕ, zero, suc, ℤ, pos, negsuc, Bool, true, false, not, ◌&&◌, cond, int_le, int_lt, nat_eq, unsigned_abs, List, [], ◌∷◌, map}
use Rattle.std.specs.Int.{int_div_euclid}
use Rattle.std.specs.Ordering.{int_eq, is_eq}
use Rattle.std.specs.Cmp.Lexicographic.{pointwise}
use Rattle.base_integers.specs.Divides.{divides}
use Rattle.base_integers.specs.Gcd.{gcd}
use Rattle.linear_term.specs.Linear.{Linear, number}
use Rattle.linear_term.specs.Combination.{combination}
use Rattle.linear_term.specs.Order.{linear_cmp}
use Rattle.form_closures.specs.Putting.{put_in}
use Rattle.formula.specs.Form.{Form, equal, unequal, at_least, holds, fails, differs, conjunction, disjunction, universal, existential, no_form, and_form}
use Rattle.clause_proof.specs.Clauses.{Definition, always, at_least_zero, is_zero, predicate, closure}

-- what a literal stands for: a definition, or its negation
pub record Signed : Type 0 where
  pub definition : Definition
  pub positive : Bool

abbrev pub plain : Definition → Signed
plain d = record { definition = d; positive = true }

abbrev pub negation : Definition → Signed
negation d = record { definition = d; positive = false }

abbrev pub other : Signed → Signed
other x = record { definition = x.definition; positive = not x.positive }

-- what does not depend on the constants
abbrev pub known : Bool → Signed
known b = record { definition = always; positive = b }

-- the greatest common divisor of g and the coefficients
abbrev pub gcd_with : ℤ → List (ℕ × ℤ) → ℤ
gcd_with g [] = g
gcd_with g (p ∷ ps) = gcd_with (gcd g p.1) ps

-- g where it is positive, else 1
abbrev pub positive_one : ℤ → ℤ
positive_one g = cond (int_lt (pos 0) g) g (pos 1)

-- the greatest common divisor of the coefficients; 1 where all are 0
abbrev pub content : List (ℕ × ℤ) → ℤ
content ps = positive_one (gcd_with (pos 0) ps)

-- each coefficient divided by g
abbrev pub divided : ℤ → List (ℕ × ℤ) → List (ℕ × ℤ)
divided g ps = map (λ p. (p.0, int_div_euclid p.1 g)) ps

-- the term divided by g, its constant rounded down
abbrev pub quotient : ℤ → Linear → Linear
quotient g t = record { pairs = divided g t.pairs; constant = int_div_euclid t.constant g }

-- the first coefficient is negative
abbrev pub leads_negative : List (ℕ × ℤ) → Bool
leads_negative [] = false
leads_negative (p ∷ ps) = int_lt p.1 (pos 0)

-- t - 1, -t - 1 and -t
abbrev pub less_one : Linear → Linear
less_one t = combination (pos 1) t (pos 1) (number (negsuc 0))

abbrev pub opposite_less_one : Linear → Linear
opposite_less_one t = combination (negsuc 0) t (pos 1) (number (negsuc 0))

abbrev pub opposite_term : Linear → Linear
opposite_term t = combination (negsuc 0) t (pos 0) (number (pos 0))

-- t >= 0, as itself or as the negation of -t - 1 >= 0: the one whose first coefficient is positive
abbrev pub turned_inequality : Linear → Signed
turned_inequality t = cond (leads_negative t.pairs) (negation (at_least_zero (opposite_less_one t))) (plain (at_least_zero t))

abbrev pub inequality_by : Linear → List (ℕ × ℤ) → Signed
inequality_by t [] = known (int_le (pos 0) t.constant)
inequality_by t (p ∷ ps) = turned_inequality (quotient (content t.pairs) t)

-- the literal of t >= 0: divided by the greatest common divisor of the coefficients, the constant rounded down
abbrev pub inequality_literal : Linear → Signed
inequality_literal t = inequality_by t t.pairs

-- t = 0 or -t = 0: the one whose first coefficient is positive
abbrev pub turned_equation : Linear → Signed
turned_equation t = cond (leads_negative t.pairs) (plain (is_zero (opposite_term t))) (plain (is_zero t))

abbrev pub equation_by : Linear → List (ℕ × ℤ) → Signed
equation_by t [] = known (int_eq t.constant (pos 0))
equation_by t (p ∷ ps) = cond (divides (unsigned_abs (content t.pairs)) t.constant) (turned_equation (quotient (content t.pairs) t)) (known false)

-- the literal of t = 0: divided by the greatest common divisor of the coefficients; false where that does not divide the constant
abbrev pub equation_literal : Linear → Signed
equation_literal t = equation_by t t.pairs

-- a conjunction or a disjunction of one formula stands for that formula
abbrev pub inner_form : Form → Form
inner_form (conjunction (and_form f no_form)) = inner_form f
inner_form (disjunction (and_form f no_form)) = inner_form f
inner_form f = f

abbrev pub literal_by : Form → List Linear → Signed
literal_by (equal t) ts = equation_literal (put_in ts t)
literal_by (unequal t) ts = other (equation_literal (put_in ts t))
literal_by (at_least t) ts = inequality_literal (put_in ts t)
literal_by (holds p us) ts = plain (predicate p (map (put_in ts) us))
literal_by (fails p us) ts = negation (predicate p (map (put_in ts) us))
literal_by (conjunction no_form) ts = known true
literal_by (disjunction no_form) ts = known false
literal_by f ts = plain (closure f ts)

-- the literal of the formula with the terms ts for its names
abbrev pub literal_of : Form → List Linear → Signed
literal_of f ts = literal_by (inner_form f) ts

-- equal terms
abbrev pub same_term : Linear → Linear → Bool
same_term s t = is_eq (linear_cmp s t)

abbrev pub same_terms : List Linear → List Linear → Bool
same_terms ss ts = pointwise same_term ss ts

-- one definition, as far as it is compared: formulas are not
abbrev pub same_definition : Definition → Definition → Bool
same_definition always always = true
same_definition (at_least_zero s) (at_least_zero t) = same_term s t
same_definition (is_zero s) (is_zero t) = same_term s t
same_definition (predicate p ss) (predicate q ts) = nat_eq p q && same_terms ss ts
same_definition c d = false
