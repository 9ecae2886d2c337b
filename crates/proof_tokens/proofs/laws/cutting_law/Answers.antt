use Rattle.proof_tokens.proofs.Respelled.{cut_back}
use Rattle.proof_tokens.proofs.laws.cutting_law.Goals as goal

pub returns : goal.returns
returns c = cut_back
