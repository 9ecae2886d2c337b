use Rattle.form_typed.specs.Truth.{Truth}
use Rattle.itp_sides.proofs.Standing.{strong_strong}
use Rattle.itp_sides.proofs.Lines.{passed, sequence}
use Rattle.itp_sides.proofs.laws.sequence_law.Goals as goal

pub returns-clause-leads : goal.returns-clause-leads
returns-clause-leads c = λ w p cut j i k. sequence w p cut j (Truth w i) (Truth w k)

pub returns-clause-strongest : goal.returns-clause-strongest
returns-clause-strongest c = λ w p cut j i k l. strong_strong w p _ _ _ _ _ (Truth w i) (Truth w k) (passed w p cut j l)
