use Rattle.proof_tokens.specs.declared.tokens.Token.TheVariants as t
use Rattle.proof_tokens.specs.Lines.{IsCharges, numbered_text, charges_text}
use Rattle.proof_tokens.proofs.Apart.{one, not_refused, behind_apart, numbered_apart}
use Rattle.proof_tokens.proofs.laws.charges_law.Goals as goal

pub returns-clause-one : goal.returns-clause-one
returns-clause-one c = λ n m bytes r s i j p q. one IsCharges charges_text (behind_apart IsCharges numbered_text t.Charges (numbered_apart IsCharges)) n m bytes r s i j p q

pub returns-clause-taken : goal.returns-clause-taken
returns-clause-taken c = λ n bytes rest left i p f. not_refused IsCharges charges_text (behind_apart IsCharges numbered_text t.Charges (numbered_apart IsCharges)) n bytes rest left i p f
