use Rattle.clause_text.proofs.ExactLines.{first_bytes, line_again, line_found}
use Rattle.clause_text.proofs.laws.line_law.Goals as goal

pub returns-clause-found : goal.returns-clause-found
returns-clause-found c = line_found

pub returns-clause-again : goal.returns-clause-again
returns-clause-again c = line_again

pub returns-clause-first : goal.returns-clause-first
returns-clause-first c = first_bytes
