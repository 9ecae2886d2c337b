use Rattle.proof_tokens.specs.declared.tokens.Token.TheVariants as t
use Rattle.proof_tokens.specs.Lines.{IsFormat, numbered_text, head_text}
use Rattle.proof_tokens.proofs.Apart.{one, not_refused, behind_apart, numbered_apart}
use Rattle.proof_tokens.proofs.laws.head_law.Goals as goal

pub returns-clause-one : goal.returns-clause-one
returns-clause-one c = λ n m bytes r s i j p q. one IsFormat head_text (behind_apart IsFormat numbered_text t.PrincessProof (numbered_apart IsFormat)) n m bytes r s i j p q

pub returns-clause-taken : goal.returns-clause-taken
returns-clause-taken c = λ n bytes rest left i p f. not_refused IsFormat head_text (behind_apart IsFormat numbered_text t.PrincessProof (numbered_apart IsFormat)) n bytes rest left i p f
