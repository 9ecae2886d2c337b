use Rattle.proof_canonical.proofs.Printed.{valid_outcome, invalid_outcome}
use Rattle.proof_canonical.proofs.printable.shaped_outcome_law.Goals as goal

pub returns-clause-valid : goal.returns-clause-valid
returns-clause-valid c = λ f n old new d vs t inside most e i. valid_outcome f n old new d vs t inside most e i

pub returns-clause-invalid : goal.returns-clause-invalid
returns-clause-invalid c = λ f n old new d t inside most e i. invalid_outcome f n old new d t inside most e i
