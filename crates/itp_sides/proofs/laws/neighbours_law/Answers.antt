use Rattle.form_typed.specs.Truth.{Truth}
use Rattle.itp_sides.proofs.Standing.{strong_strong, strong_weak, weak_weak}
use Rattle.itp_sides.proofs.laws.neighbours_law.Goals as goal

pub returns-clause-strong_strong : goal.returns-clause-strong_strong
returns-clause-strong_strong c = λ w p first second between wider narrower i j. strong_strong w p first second between wider narrower (Truth w i) (Truth w j)

pub returns-clause-strong_weak : goal.returns-clause-strong_weak
returns-clause-strong_weak c = λ w p first second between wider narrower i j. strong_weak w p first second between wider narrower (Truth w i) (Truth w j)

pub returns-clause-weak_weak : goal.returns-clause-weak_weak
returns-clause-weak_weak c = λ w p first second between wider narrower i j. weak_weak w p first second between wider narrower (Truth w i) (Truth w j)
