use Rattle.clause_file.proofs.OneVerdict.{one_verdict}
use Rattle.clause_file.proofs.laws.one_verdict_law.Goals as goal

pub returns : goal.returns
returns c = one_verdict
