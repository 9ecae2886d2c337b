use Rattle.form_typed.specs.Truth.{Truth}
use Rattle.itp_sides.proofs.Standing.{strongest_contradicts, strongest_follows, weakest_contradicts, weakest_follows}
use Rattle.itp_sides.proofs.laws.standing_law.Goals as goal

pub returns-clause-strongest_follows : goal.returns-clause-strongest_follows
returns-clause-strongest_follows c = λ w p first second i. strongest_follows w p first second (Truth w i)

pub returns-clause-strongest_contradicts : goal.returns-clause-strongest_contradicts
returns-clause-strongest_contradicts c = λ w p first second i. strongest_contradicts w p first second (Truth w i)

pub returns-clause-weakest_follows : goal.returns-clause-weakest_follows
returns-clause-weakest_follows c = λ w p first second i. weakest_follows w p first second (Truth w i)

pub returns-clause-weakest_contradicts : goal.returns-clause-weakest_contradicts
returns-clause-weakest_contradicts c = λ w p first second i. weakest_contradicts w p first second (Truth w i)
