use Rattle.search.proofs.Retracing.{retraced}
use Rattle.search.proofs.laws.canonical_law.Goals as goal

pub returns-clause-gives : goal.returns-clause-gives
returns-clause-gives c = λ limit left n s x e. (retraced limit left n s x e).gives

pub returns-clause-events : goal.returns-clause-events
returns-clause-events c = λ limit left n s x e. (retraced limit left n s x e).events
