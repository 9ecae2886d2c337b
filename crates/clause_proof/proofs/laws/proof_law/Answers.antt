use Rattle.clause_proof.proofs.Sound.{proof_shows}
use Rattle.clause_proof.proofs.laws.proof_law.Goals as goal

pub returns : goal.returns
returns c = proof_shows
