-- The clauses of disjunctions of the code are in form.
use Rattle.clause_set.proofs.Formed.{clause-is_formed}

pub ruleset formed = (clause-is_formed)
