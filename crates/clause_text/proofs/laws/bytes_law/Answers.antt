use Rattle.clause_text.proofs.ExactLines.{line_back}
use Rattle.clause_text.proofs.ExactHead.{head_back}
use Rattle.clause_text.proofs.laws.bytes_law.Goals as goal

pub returns-clause-line : goal.returns-clause-line
returns-clause-line c = line_back

pub returns-clause-head : goal.returns-clause-head
returns-clause-head c = λ h rest i. head_back h i rest
