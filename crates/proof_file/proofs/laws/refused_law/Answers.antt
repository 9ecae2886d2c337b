use Rattle.proof_file.proofs.OneProof.{held_by_file, held_by_text}
use Rattle.proof_file.proofs.laws.refused_law.Goals as goal

pub returns-clause-text : goal.returns-clause-text
returns-clause-text c = held_by_text

pub returns-clause-file : goal.returns-clause-file
returns-clause-file c = held_by_file
