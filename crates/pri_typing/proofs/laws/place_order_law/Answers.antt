use Rattle.pri_typing.proofs.Least.{faults_ordered, offsets_ordered}
use Rattle.pri_typing.proofs.laws.place_order_law.Goals as goal

pub returns-clause-offsets : goal.returns-clause-offsets
returns-clause-offsets c = offsets_ordered

pub returns-clause-faults : goal.returns-clause-faults
returns-clause-faults c = faults_ordered
