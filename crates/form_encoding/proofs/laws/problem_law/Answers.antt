use Rattle.form_encoding.proofs.Problems.{holds_is}
use Rattle.form_encoding.proofs.laws.problem_law.Goals as goal

pub returns : goal.returns
returns c = holds_is
