use Rattle.proof_tokens.specs.Lines.{IsSaidLog, said_text}
use Rattle.proof_tokens.proofs.Apart.{one, not_refused}
use Rattle.proof_tokens.proofs.PartLines.{said_apart}
use Rattle.proof_tokens.proofs.laws.said_law.Goals as goal

pub returns-clause-one : goal.returns-clause-one
returns-clause-one c = λ parts u v bytes r s i j p q. one (IsSaidLog parts) said_text (said_apart parts) u v bytes r s i j p q

pub returns-clause-taken : goal.returns-clause-taken
returns-clause-taken c = λ parts u bytes rest left i p f. not_refused (IsSaidLog parts) said_text (said_apart parts) u bytes rest left i p f
