use Rattle.clause_set.proofs.Owned.{clause-primitive, normal-twice}
use Rattle.clause_set.proofs.Shapes.{clause-shaped}
use Rattle.clause_set.proofs.Points.{clause-own, bounds-apart, no_clause}
use Rattle.clause_set.proofs.laws.form_law.Goals as goal

pub returns-clause-primitive : goal.returns-clause-primitive
returns-clause-primitive c = clause-primitive

pub returns-clause-shaped : goal.returns-clause-shaped
returns-clause-shaped c = clause-shaped

pub returns-clause-literal : goal.returns-clause-literal
returns-clause-literal c = normal-twice

pub returns-clause-own : goal.returns-clause-own
returns-clause-own c = clause-own

pub returns-clause-apart : goal.returns-clause-apart
returns-clause-apart c = bounds-apart

pub returns-clause-none : goal.returns-clause-none
returns-clause-none c = no_clause
