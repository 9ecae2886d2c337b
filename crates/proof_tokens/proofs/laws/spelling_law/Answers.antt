use Rattle.proof_tokens.proofs.Cutting.{spelled_front}
use Rattle.proof_tokens.proofs.laws.spelling_law.Goals as goal

pub returns : goal.returns
returns c = spelled_front
