use Rattle.job_clauses.proofs.Proving.{clauses_hold}
use Rattle.job_clauses.proofs.laws.proof_law.Goals as goal

pub returns : goal.returns
returns c = clauses_hold
