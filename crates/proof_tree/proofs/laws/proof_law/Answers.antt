use Rattle.proof_tree.proofs.Proving.{proves_invalid, proves_valid}
use Rattle.proof_tree.proofs.laws.proof_law.Goals as goal

pub returns-clause-valid : goal.returns-clause-valid
returns-clause-valid c = proves_valid

pub returns-clause-invalid : goal.returns-clause-invalid
returns-clause-invalid c = proves_invalid
