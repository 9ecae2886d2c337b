use Rattle.job_values.proofs.Refutes.{values_best, values_fail, values_refute}
use Rattle.job_values.proofs.laws.values_law.Goals as goal

pub returns-clause-fails : goal.returns-clause-fails
returns-clause-fails c = values_fail

pub returns-clause-is : goal.returns-clause-is
returns-clause-is c = values_refute

pub returns-clause-best : goal.returns-clause-best
returns-clause-best c = values_best
