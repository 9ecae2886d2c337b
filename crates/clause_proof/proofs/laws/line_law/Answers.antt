use Rattle.clause_proof.proofs.Sound.{after_gives}
use Rattle.clause_proof.proofs.laws.line_law.Goals as goal

pub returns : goal.returns
returns c = after_gives
