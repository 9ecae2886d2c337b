use Rattle.pri_problem.proofs.Bytes.{reads_formed, reads_distinct, reads_identifiers, reads_pure}
use Rattle.pri_problem.proofs.laws.problem_law.Goals as goal

pub returns-clause-well_formed : goal.returns-clause-well_formed
returns-clause-well_formed c = reads_formed

pub returns-clause-distinct : goal.returns-clause-distinct
returns-clause-distinct c = reads_distinct

pub returns-clause-identifiers : goal.returns-clause-identifiers
returns-clause-identifiers c = reads_identifiers

pub returns-clause-pure : goal.returns-clause-pure
returns-clause-pure c = reads_pure
