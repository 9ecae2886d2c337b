-- A formula with some of its constants bound by quantifiers.
use Rattle.std.specs.Prelude.{ℕ, zero, suc, ◌+◌, ◌&&◌, not, Bool, true, false, cond, nat_eq, nat_lt, List, [], ◌∷◌, length, map}
use Rattle.std.specs.List.{list_any, filter}
use Rattle.form_typed.specs.Formula.{Formula, Formulas, Expression, Expressions, constant, compares, applies, negation, every, some, implies, iff, for_all, for_some, part, no_formula, and_formula, number, name, call, minus, total, product, choice, absolute, lesser, greater, no_expression, and_expression}
use Rattle.form_typed.specs.declared.typed.Sort.{Sort}
use Rattle.pri_typing.specs.declared.problem.Problem.{Problem}
use Rattle.form_encoding.specs.Meaning.{type_at}
use Rattle.form_encoding.specs.Occurrences.{occurs}
use Rattle.form_encoding.specs.Problems.{constants, types}

abbrev mutual
  -- each name sent through a map
  pub renamed : (ℕ → ℕ) → Formula → Formula
  renamed r (constant b) = constant b
  renamed r (compares c s t) = compares c (renamed_term r s) (renamed_term r t)
  renamed r (applies p ts) = applies p (renamed_terms r ts)
  renamed r (negation f) = negation (renamed r f)
  renamed r (every fs) = every (renamed_all r fs)
  renamed r (some fs) = some (renamed_all r fs)
  renamed r (implies f g) = implies (renamed r f) (renamed r g)
  renamed r (iff f g) = iff (renamed r f) (renamed r g)
  renamed r (for_all s f) = for_all s (renamed r f)
  renamed r (for_some s f) = for_some s (renamed r f)
  renamed r (part k f) = part k (renamed r f)

  pub renamed_all : (ℕ → ℕ) → Formulas → Formulas
  renamed_all r no_formula = no_formula
  renamed_all r (and_formula f fs) = and_formula (renamed r f) (renamed_all r fs)

  pub renamed_term : (ℕ → ℕ) → Expression → Expression
  renamed_term r (number v) = number v
  renamed_term r (name x) = name (r x)
  renamed_term r (call f ts) = call f (renamed_terms r ts)
  renamed_term r (minus t) = minus (renamed_term r t)
  renamed_term r (total ts) = total (renamed_terms r ts)
  renamed_term r (product s t) = product (renamed_term r s) (renamed_term r t)
  renamed_term r (choice f s t) = choice (renamed r f) (renamed_term r s) (renamed_term r t)
  renamed_term r (absolute t) = absolute (renamed_term r t)
  renamed_term r (lesser s t) = lesser (renamed_term r s) (renamed_term r t)
  renamed_term r (greater s t) = greater (renamed_term r s) (renamed_term r t)

  pub renamed_terms : (ℕ → ℕ) → Expressions → Expressions
  renamed_terms r no_expression = no_expression
  renamed_terms r (and_expression t ts) = and_expression (renamed_term r t) (renamed_terms r ts)

-- a quantifier of each of these types, the first one outermost: for all values, or for some
abbrev pub quantified : Bool → List Sort → Formula → Formula
quantified all [] f = f
quantified true (s ∷ ss) f = for_all s (quantified true ss f)
quantified false (s ∷ ss) f = for_some s (quantified false ss f)

-- n numbers from k on, in order
abbrev pub numbers_from : ℕ → ℕ → List ℕ
numbers_from k zero = []
numbers_from k (suc n) = k ∷ numbers_from (suc k) n

-- the constants, in their order, that stand in the first formula and not in the second
abbrev pub own_constants : ℕ → Formula → Formula → List ℕ
own_constants n f g = filter (λ x. occurs x f && not (occurs x g)) (numbers_from 0 n)

-- the place of a number in a list, from 0 on
abbrev pub place_of : ℕ → List ℕ → ℕ
place_of x [] = 0
place_of x (y ∷ ys) = cond (nat_eq x y) 0 (suc (place_of x ys))

-- Where the name of one of n constants goes when those in the list get quantifiers, outermost the first: a constant of the list
-- becomes the variable of its quantifier, and variables that were bound before have that many more around them.
abbrev pub rebound : ℕ → List ℕ → ℕ → ℕ
rebound n own x = cond (nat_lt x n) (cond (list_any (nat_eq x) own) (n + place_of x own) x) (x + length own)

-- the types of these constants of a problem
abbrev pub types_of : Problem → List ℕ → List Sort
types_of p own = map (type_at (types p)) own

-- the formula under a quantifier for each of these constants of a problem
abbrev pub closed : Bool → Problem → List ℕ → Formula → Formula
closed all p own f = quantified all (types_of p own) (renamed (rebound (constants p) own) f)

-- The formula that stands between two others where all symbols of the first stand in the second: the first with its own
-- constants under "some value".
abbrev pub strongest_formula : Problem → Formula → Formula → Formula
strongest_formula p first second = closed false p (own_constants (constants p) first second) first

-- The same where all symbols of the second stand in the first: the negation of the second with its own constants under "every value".
abbrev pub weakest_formula : Problem → Formula → Formula → Formula
weakest_formula p first second = closed true p (own_constants (constants p) second first) (negation second)
