use Rattle.std.proofs.Common.{not}
use Rattle.clause_set.specs.Dnfs.{is_covered}
use Rattle.clause_set.proofs.Walks.{Passes}
use Rattle.clause_set.proofs.covering.all_stay.Given as goal

abbrev pub invariant-loop-d : goal.invariant-loop-d
invariant-loop-d l = Passes (λ d. not (is_covered l.cs d)) l.ds l.d-index
