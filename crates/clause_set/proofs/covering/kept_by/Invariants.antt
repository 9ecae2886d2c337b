use Rattle.std.proofs.Common.{not}
use Rattle.clause_set.specs.Dnfs.{is_covered}
use Rattle.clause_set.proofs.Walks.{Filters}
use Rattle.clause_set.proofs.covering.kept_by.Given as goal

abbrev pub invariant-loop-d : goal.invariant-loop-d
invariant-loop-d l = Filters (λ d. not (is_covered l.cs d)) l.ds l.d-index l.out
