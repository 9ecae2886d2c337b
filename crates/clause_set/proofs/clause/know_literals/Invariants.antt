use Rattle.std.proofs.Common.{ℕ, ◌<◌, get_or}
use Rattle.clause_set.specs.declared.literal.Literal.{Literal}
use Rattle.clause_set.specs.Literals.{IsLiteral}
use Rattle.clause_set.proofs.clause.know_literals.Given as goal

abbrev pub invariant-loop-l : goal.invariant-loop-l
invariant-loop-l l = (k : ℕ) (d : Literal) → k < l.l-index → IsLiteral (get_or l.ls k d)
