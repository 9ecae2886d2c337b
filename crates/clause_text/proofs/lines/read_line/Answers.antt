use Rattle.clause_text.proofs.ExactLines.{result_again, result_found, result_first}
use Rattle.clause_text.proofs.lines.read_line.Goals as goal

pub returns-clause-found : goal.returns-clause-found
returns-clause-found c = result_found c.args.text.now (λ s. s.now) c.any_line.result c.any_line.ensures

pub returns-clause-only : goal.returns-clause-only
returns-clause-only c = λ line rest i e. result_again c.args.text.now (λ s. s.now) c.any_line.result c.any_line.ensures line rest i e

pub returns-clause-first : goal.returns-clause-first
returns-clause-first c = result_first c.args.text.now (λ s. s.now) c.any_line.result c.any_line.ensures
