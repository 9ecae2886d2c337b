use Rattle.linear_term.specs.Range.{InRange}
use Rattle.proof_tokens.specs.Lines.{AreValues, value_text, values_text}
use Rattle.proof_tokens.proofs.Apart.{one, not_refused}
use Rattle.proof_tokens.proofs.ItemLines.{list_apart}
use Rattle.proof_tokens.proofs.Integers.{value_apart}
use Rattle.proof_tokens.proofs.laws.values_law.Goals as goal

pub returns-clause-one : goal.returns-clause-one
returns-clause-one c = λ us vs bytes r s i j p q. one AreValues values_text (list_apart InRange value_text value_apart) us vs bytes r s i j p q

pub returns-clause-taken : goal.returns-clause-taken
returns-clause-taken c = λ vs bytes rest left i p f. not_refused AreValues values_text (list_apart InRange value_text value_apart) vs bytes rest left i p f
