-- The formulas that terms, literals, clauses and disjunctive normal forms are printed as. The quotient of a divisibility is
-- the name n.
use Rattle.std.specs.Prelude.{ℕ, ℤ, pos, Bool, true, false, cond, nat_eq, unsigned_abs, List, [], ◌∷◌, map}
use Rattle.linear_term.specs.Linear.{Linear}
use Rattle.form_typed.specs.declared.typed.Sort.TheVariants as sort
use Rattle.form_typed.specs.Formula.{Formula, Formulas, no_formula, Expression, formulas, expressions, compares, every, some, for_some, negation, number, name, minus, product, total}
use Rattle.form_typed.specs.Formula as logic
use Rattle.form_typed.specs.declared.typed.Relation.TheVariants as relation
use Rattle.pri_typing.specs.Typing.{signed}
use Rattle.clause_set.specs.declared.literal.Literal.{Literal}
use Rattle.clause_set.specs.declared.literal.Literal.TheVariants.{Eq, Geq, Div, NDiv}
use Rattle.pri_printer.specs.Summands.{Summand, alone, times, SignedSummand, summands}

-- n, x, or n times x
abbrev pub summand_value : Summand → Expression
summand_value (alone n) = number (pos n)
summand_value (times n x) = cond (nat_eq n 1) (name x) (product (number (pos n)) (name x))

-- `-` before a summand stands with its number
abbrev pub less_summand : Summand → Expression
less_summand (alone n) = minus (number (pos n))
less_summand (times n x) = cond (nat_eq n 1) (minus (name x)) (product (minus (number (pos n))) (name x))

abbrev pub first_value : SignedSummand → Expression
first_value a = cond a.0 (less_summand a.1) (summand_value a.1)

abbrev pub later_part : SignedSummand → (Bool × Expression)
later_part a = (a.0, summand_value a.1)

-- a later term of a sum, with its sign
abbrev pub later : (Bool × Expression) → Expression
later a = signed a.0 a.1

-- a sum of one term is that term
abbrev pub summation : Expression → List (Bool × Expression) → Expression
summation t [] = t
summation t (a ∷ more) = total (expressions (t ∷ map later (a ∷ more)))

abbrev pub sum_value : List SignedSummand → Expression
sum_value [] = number (pos 0)
sum_value (a ∷ more) = summation (first_value a) (map later_part more)

-- a linear term as a sum
abbrev pub term_value : Linear → Expression
term_value t = sum_value (summands t.pairs t.constant)

-- t is d times some integer
abbrev pub divides_formula : ℕ → ℤ → Linear → Formula
divides_formula n d t = for_some sort.Int (compares relation.Eq (term_value t) (product (number (pos (unsigned_abs d))) (name n)))

-- a literal
abbrev pub literal_formula : ℕ → Literal → Formula
literal_formula n (Eq t) = compares relation.Eq (term_value t) (number (pos 0))
literal_formula n (Geq t) = compares relation.Geq (term_value t) (number (pos 0))
literal_formula n (Div d t) = divides_formula n d t
literal_formula n (NDiv d t) = negation (divides_formula n d t)

-- several formulas as one: one is itself
abbrev pub joined_by : (Formulas → Formula) → List Formula → Formula
joined_by join [] = join no_formula
joined_by join (f ∷ []) = f
joined_by join (f ∷ g ∷ fs) = join (formulas (f ∷ g ∷ fs))

-- a clause: the conjunction of its literals
abbrev pub clause_formula : ℕ → List Literal → Formula
clause_formula n [] = logic.constant true
clause_formula n (l ∷ ls) = joined_by every (map (literal_formula n) (l ∷ ls))

-- a disjunctive normal form: the disjunction of its clauses
abbrev pub normal_form_formula : ℕ → List (List Literal) → Formula
normal_form_formula n [] = logic.constant false
normal_form_formula n (c ∷ cs) = joined_by some (map (clause_formula n) (c ∷ cs))
