-- What literals, clauses and disjunctive normal forms are, and when they are true.
use Rattle.std.specs.Prelude.{ℤ, pos, ◌<ℤ◌, Bool, true, false, not, unsigned_abs, List, int_le, Option, Some, None}
use Rattle.std.specs.List.{AllByRecursion, list_all, list_any}
use Rattle.std.specs.Prelude.{All}
use Rattle.std.specs.Ordering.{int_eq}
use Rattle.base_integers.specs.Divides.{divides}
use Rattle.linear_term.specs.Range.{InRange}
use Rattle.linear_term.specs.Linear.{Linear, IsReduced, value_of}
use Rattle.clause_set.specs.declared.literal.Literal.{Literal}
use Rattle.clause_set.specs.declared.literal.Literal.TheVariants.{Eq, Geq, Div, NDiv}
use Rattle.clause_set.specs.declared.literal.Norm.{Norm}
use Rattle.clause_set.specs.declared.literal.Norm.TheVariants as norm

-- the term that the literal speaks of
abbrev pub term_of : Literal → Linear
term_of (Eq t) = t
term_of (Geq t) = t
term_of (Div d t) = t
term_of (NDiv d t) = t

-- the divisor is from 1 to the greatest coefficient
pub record IsDivisor (d : ℤ) : Type 0 where
  pub positive : pos 0 <ℤ d
  pub in_range : InRange d

-- the divisor of the literal, if it has one, is a divisor
abbrev pub HasDivisor : Literal → Type 0
HasDivisor (Eq t) = Unit {0}
HasDivisor (Geq t) = Unit {0}
HasDivisor (Div d t) = IsDivisor d
HasDivisor (NDiv d t) = IsDivisor d

-- the same of a normal form
abbrev pub HasDivisorNorm : Norm → Type 0
HasDivisorNorm norm.True = Unit {0}
HasDivisorNorm norm.False = Unit {0}
HasDivisorNorm (norm.Lit l) = HasDivisor l

-- the divisor of the literal, if it has one, is positive
abbrev pub HasPositiveDivisor : Literal → Type 0
HasPositiveDivisor (Eq t) = Unit {0}
HasPositiveDivisor (Geq t) = Unit {0}
HasPositiveDivisor (Div d t) = pos 0 <ℤ d
HasPositiveDivisor (NDiv d t) = pos 0 <ℤ d

-- a literal over the integers without a limit: its term is reduced, and its divisor is positive
pub record IsLiteral (l : Literal) : Type 0 where
  pub term : IsReduced (term_of l)
  pub divisor : HasPositiveDivisor l

-- the literal is true at the integers e: t = 0, t ≥ 0, d divides t, d does not divide t
abbrev pub literal_truth : Literal → List ℤ → Bool
literal_truth (Eq t) e = int_eq (value_of t e) (pos 0)
literal_truth (Geq t) e = int_le (pos 0) (value_of t e)
literal_truth (Div d t) e = divides (unsigned_abs d) (value_of t e)
literal_truth (NDiv d t) e = not (divides (unsigned_abs d) (value_of t e))

-- a normal form is true, false, or what its literal is
abbrev pub norm_truth : Norm → List ℤ → Bool
norm_truth norm.True e = true
norm_truth norm.False e = false
norm_truth (norm.Lit l) e = literal_truth l e

-- a clause is true where all its literals are
abbrev pub clause_truth : List Literal → List ℤ → Bool
clause_truth c e = list_all (λ l. literal_truth l e) c

-- the same, where no clause is the false one
abbrev pub answer_truth : Option (List Literal) → List ℤ → Bool
answer_truth None e = false
answer_truth (Some c) e = clause_truth c e

-- a disjunction of clauses is true where one of them is
abbrev pub dnf_truth : List (List Literal) → List ℤ → Bool
dnf_truth d e = list_any (λ c. clause_truth c e) d

-- the literals of each clause are literals
abbrev pub AreLiterals : List (List Literal) → Type 0
AreLiterals d = AllByRecursion (All IsLiteral) d
