-- The formula that a printed formula is read as: without parts, without conjunctions, disjunctions and sums of fewer than
-- two members, and with a minus before the absolute value of a negative number.
use Rattle.std.specs.Prelude.{suc, ℤ, pos, negsuc, true, false, List, [], ◌∷◌}
use Rattle.form_typed.specs.Formula.{Formula, Formulas, Expression, Expressions, formulas, expressions, compares, applies, negation, every, some, implies, iff, for_all, for_some, part, no_formula, and_formula, number, name, call, minus, total, product, choice, absolute, lesser, greater, no_expression, and_expression}
use Rattle.form_typed.specs.Formula as logic

-- several formulas as one: one is itself, and no formula is this one
abbrev pub joined : Formula → (Formulas → Formula) → List Formula → Formula
joined none join [] = none
joined none join (f ∷ []) = f
joined none join (f ∷ g ∷ fs) = join (formulas (f ∷ g ∷ fs))

-- several terms as their sum: one is itself, and no term is 0
abbrev pub summed : List Expression → Expression
summed [] = number (pos 0)
summed (t ∷ []) = t
summed (t ∷ u ∷ ts) = total (expressions (t ∷ u ∷ ts))

-- a negative number is minus its absolute value
abbrev pub plain_number : ℤ → Expression
plain_number (pos n) = number (pos n)
plain_number (negsuc n) = minus (number (pos (suc n)))

abbrev mutual
  -- the plain form of a formula
  pub plain : Formula → Formula
  plain (logic.constant b) = logic.constant b
  plain (compares r s t) = compares r (plain_term s) (plain_term t)
  plain (applies k ts) = applies k (expressions (plain_terms ts))
  plain (negation f) = negation (plain f)
  plain (every fs) = joined (logic.constant true) every (plain_all fs)
  plain (some fs) = joined (logic.constant false) some (plain_all fs)
  plain (implies f g) = implies (plain f) (plain g)
  plain (iff f g) = iff (plain f) (plain g)
  plain (for_all s f) = for_all s (plain f)
  plain (for_some s f) = for_some s (plain f)
  plain (part k f) = plain f

  -- those of several formulas
  pub plain_all : Formulas → List Formula
  plain_all no_formula = []
  plain_all (and_formula f fs) = plain f ∷ plain_all fs

  -- the plain form of a term
  pub plain_term : Expression → Expression
  plain_term (number v) = plain_number v
  plain_term (name x) = name x
  plain_term (call k ts) = call k (expressions (plain_terms ts))
  plain_term (minus t) = minus (plain_term t)
  plain_term (total ts) = summed (plain_terms ts)
  plain_term (product s t) = product (plain_term s) (plain_term t)
  plain_term (choice f s t) = choice (plain f) (plain_term s) (plain_term t)
  plain_term (absolute t) = absolute (plain_term t)
  plain_term (lesser s t) = lesser (plain_term s) (plain_term t)
  plain_term (greater s t) = greater (plain_term s) (plain_term t)

  -- those of several terms
  pub plain_terms : Expressions → List Expression
  plain_terms no_expression = []
  plain_terms (and_expression t ts) = plain_term t ∷ plain_terms ts
