use Rattle.clause_file.proofs.Meaning.{proof_means}
use Rattle.clause_file.proofs.laws.meaning_law.Goals as goal

pub returns : goal.returns
returns c = proof_means
