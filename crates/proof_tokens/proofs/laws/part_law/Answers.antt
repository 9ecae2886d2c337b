use Rattle.proof_tokens.specs.Lines.{IsPart, part_text}
use Rattle.proof_tokens.proofs.Apart.{one, not_refused}
use Rattle.proof_tokens.proofs.PartLines.{part_apart}
use Rattle.proof_tokens.proofs.laws.part_law.Goals as goal

pub returns-clause-one : goal.returns-clause-one
returns-clause-one c = λ es fs bytes r s i j p q. one IsPart part_text part_apart es fs bytes r s i j p q

pub returns-clause-taken : goal.returns-clause-taken
returns-clause-taken c = λ es bytes rest left i p f. not_refused IsPart part_text part_apart es bytes rest left i p f
