use Rattle.elim_laws.proofs.Whole.{anywhere, decided, witness, counterexample}
use Rattle.elim_laws.proofs.laws.truth_law.Goals as goal

pub returns-clause-anywhere : goal.returns-clause-anywhere
returns-clause-anywhere c = anywhere

pub returns-clause-decided : goal.returns-clause-decided
returns-clause-decided c = decided

pub returns-clause-witness : goal.returns-clause-witness
returns-clause-witness c = witness

pub returns-clause-counterexample : goal.returns-clause-counterexample
returns-clause-counterexample c = counterexample
