-- What clauses and disjunctive normal forms are.
use Rattle.std.specs.Prelude.{◌≡◌, false, List, All, Some}
use Rattle.std.specs.List.Sorted.{IsStrictlySortedBy}
use Rattle.clause_set.specs.declared.literal.Literal.{Literal}
use Rattle.clause_set.specs.Literals.{HasDivisor, IsLiteral}
use Rattle.clause_set.specs.Clauses.{clause_of}
use Rattle.clause_set.specs.Dnfs.{is_covered}
use Rattle.clause_set.specs.Order.{clause_cmp}

-- c is the normal form of some conjunction of literals
pub record IsClause (c : List Literal) : Type 0 where
  pub conjunction : List Literal
  pub of_literals : All IsLiteral conjunction
  pub is : clause_of conjunction ≡ Some c
  pub literals : All IsLiteral c
  pub divisors : All HasDivisor c

-- d is in form: its clauses are sorted, each once, and none is covered by another one
pub record IsDnf (d : List (List Literal)) : Type 0 where
  pub sorted : IsStrictlySortedBy clause_cmp d
  pub uncovered : All (λ c. is_covered d c ≡ false) d
