use Rattle.form_typed.specs.Truth.{Truth}
use Rattle.itp_sides.proofs.Lines.{case_rises, sides_apart, stands_contradicts, stands_follows}
use Rattle.itp_sides.proofs.laws.sides_law.Goals as goal

pub returns-clause-apart : goal.returns-clause-apart
returns-clause-apart c = sides_apart

pub returns-clause-follows : goal.returns-clause-follows
returns-clause-follows c = λ w p cut j i. stands_follows w p cut j (Truth w i)

pub returns-clause-contradicts : goal.returns-clause-contradicts
returns-clause-contradicts c = λ w p cut j i. stands_contradicts w p cut j (Truth w i)

pub returns-clause-rises : goal.returns-clause-rises
returns-clause-rises c = case_rises
