use Rattle.proof_file.proofs.OneRefusal.{one_by_file, one_by_text}
use Rattle.proof_file.proofs.laws.one_refusal_law.Goals as goal

pub returns-clause-text : goal.returns-clause-text
returns-clause-text c = one_by_text

pub returns-clause-file : goal.returns-clause-file
returns-clause-file c = one_by_file
