use Rattle.clause_text.proofs.ExactFiles.{head_refused, line_refused}
use Rattle.clause_text.proofs.laws.refused_law.Goals as goal

pub returns-clause-head : goal.returns-clause-head
returns-clause-head c = head_refused

pub returns-clause-line : goal.returns-clause-line
returns-clause-line c = line_refused
