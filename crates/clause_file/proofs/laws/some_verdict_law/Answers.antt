use Rattle.clause_file.proofs.SomeVerdict.{some_verdict}
use Rattle.clause_file.proofs.laws.some_verdict_law.Goals as goal

pub returns : goal.returns
returns c = some_verdict
