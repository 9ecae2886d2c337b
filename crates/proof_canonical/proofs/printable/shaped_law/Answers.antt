use Rattle.proof_canonical.proofs.Printed.{valid_shaped, invalid_shaped}
use Rattle.proof_canonical.proofs.printable.shaped_law.Goals as goal

pub returns-clause-valid : goal.returns-clause-valid
returns-clause-valid c = λ f n g vs x b inside most e t. valid_shaped f n g vs x b inside most e t

pub returns-clause-invalid : goal.returns-clause-invalid
returns-clause-invalid c = λ f n g log x b inside most e t. invalid_shaped f n g log x b inside most e t
