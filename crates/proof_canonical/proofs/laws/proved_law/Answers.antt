use Rattle.proof_canonical.proofs.Proving.{proved_valid, proved_invalid}
use Rattle.proof_canonical.proofs.laws.proved_law.Goals as goal

pub returns-clause-valid : goal.returns-clause-valid
returns-clause-valid c = λ f n g vs x b over red e. proved_valid f n g vs x b over red e

pub returns-clause-invalid : goal.returns-clause-invalid
returns-clause-invalid c = λ f n g log x b over red e. proved_invalid f n g log x b over red e
