use Rattle.clause_set.proofs.Tested.{clauses-pass, tidied-pass}
use Rattle.clause_set.proofs.Shapes.{clauses-shaped}
use Rattle.clause_set.proofs.laws.kept_law.Goals as goal

pub returns-clause-clauses : goal.returns-clause-clauses
returns-clause-clauses c = clauses-pass

pub returns-clause-tidy : goal.returns-clause-tidy
returns-clause-tidy c = tidied-pass

pub returns-clause-shaped : goal.returns-clause-shaped
returns-clause-shaped c = clauses-shaped
