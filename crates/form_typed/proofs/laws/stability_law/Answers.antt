use Rattle.form_typed.proofs.Stability.{truth_stable}
use Rattle.form_typed.proofs.Connectives.{double_negation}
use Rattle.form_typed.proofs.laws.stability_law.Goals as goal

pub returns-clause-stable : goal.returns-clause-stable
returns-clause-stable c = truth_stable

pub returns-clause-double_negation : goal.returns-clause-double_negation
returns-clause-double_negation c = double_negation
