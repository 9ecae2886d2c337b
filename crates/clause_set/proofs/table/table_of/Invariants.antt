use Rattle.clause_set.proofs.Tables.{Tabled}
use Rattle.clause_set.proofs.table.table_of.Given as goal

abbrev pub invariant-loop-literal : goal.invariant-loop-literal
invariant-loop-literal l = Tabled l.literals l.literal-index l.table
