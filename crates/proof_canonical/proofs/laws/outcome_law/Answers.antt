use Rattle.proof_canonical.proofs.Proving.{told_valid, told_invalid}
use Rattle.proof_canonical.proofs.laws.outcome_law.Goals as goal

pub returns-clause-valid : goal.returns-clause-valid
returns-clause-valid c = λ f n old new d vs t over red e. told_valid f n old new d vs t over red e

pub returns-clause-invalid : goal.returns-clause-invalid
returns-clause-invalid c = λ f n old new d t over red e. told_invalid f n old new d t over red e
