use Rattle.proof_constraint.specs.Text.{AreClauses, gives_text}
use Rattle.proof_tokens.proofs.Apart.{one, not_refused}
use Rattle.proof_constraint.proofs.Gives.{gives_apart}
use Rattle.proof_constraint.proofs.laws.given_law.Goals as goal

pub returns-clause-one : goal.returns-clause-one
returns-clause-one c = λ d e bytes r s i j p q. one AreClauses gives_text gives_apart d e bytes r s i j p q

pub returns-clause-taken : goal.returns-clause-taken
returns-clause-taken c = λ d bytes rest left i p f. not_refused AreClauses gives_text gives_apart d bytes rest left i p f
