use Rattle.base_budget.specs.Trace.{just}
use Rattle.search.proofs.Closing.{just_made, no_leaf}
use Rattle.search.proofs.constraint.free.Goals as goal

pub returns-in-Ok : goal.returns-in-Ok
returns-in-Ok c = λ d b is. just_made d c.in-Ok.constraint b c.unlogged.ensures (rw c.in-Ok.is at is)

pub returns-in-Err : goal.returns-in-Err
returns-in-Err c = λ d b is. no_leaf (just d) b
