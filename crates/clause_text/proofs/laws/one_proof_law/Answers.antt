use Rattle.clause_text.proofs.ExactFiles.{same_proof}
use Rattle.clause_text.proofs.laws.one_proof_law.Goals as goal

pub returns : goal.returns
returns c = same_proof
