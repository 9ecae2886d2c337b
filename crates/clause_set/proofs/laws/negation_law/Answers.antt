use Rattle.clause_set.proofs.Negations.{negated_clause-truth, negated_literal-truth}
use Rattle.clause_set.proofs.Reduced.{negation-truth}
use Rattle.clause_set.proofs.laws.negation_law.Goals as goal

pub returns-clause-literal : goal.returns-clause-literal
returns-clause-literal c = negated_literal-truth

pub returns-clause-clause : goal.returns-clause-clause
returns-clause-clause c = negated_clause-truth

pub returns-clause-not : goal.returns-clause-not
returns-clause-not c = negation-truth
