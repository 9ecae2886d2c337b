use Rattle.proof_file.proofs.OneProof.{holds_one}
use Rattle.proof_file.proofs.laws.holds_one_law.Goals as goal

pub returns : goal.returns
returns c = holds_one
