use Rattle.clause_set.proofs.Canonical.{dnf_of_tidied}
use Rattle.clause_set.proofs.dnf.Dnf.of_both_into.Goals as goal

pub invariant_of-result : goal.invariant_of-result
invariant_of-result c = dnf_of_tidied _ _ c.in_ok-clauses.ensures
