use Rattle.clause_text.proofs.ExactHead.{head_again, head_found, head_first}
use Rattle.clause_text.proofs.head.read_head.Goals as goal

pub returns-clause-found : goal.returns-clause-found
returns-clause-found c = head_found c.args.text.now (λ s. s.now) c.any_head.result c.any_head.ensures

pub returns-clause-only : goal.returns-clause-only
returns-clause-only c = λ h rest i e. head_again c.args.text.now (λ s. s.now) c.any_head.result c.any_head.ensures h rest i e

pub returns-clause-first : goal.returns-clause-first
returns-clause-first c = head_first c.args.text.now (λ s. s.now) c.any_head.result c.any_head.ensures
