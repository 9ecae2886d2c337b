use Rattle.pri_printer.proofs.Outer.{existentials_true}
use Rattle.pri_printer.proofs.Plain.{printed_existentials}
use Rattle.pri_printer.proofs.laws.constraint_law.Goals as goal

pub returns-clause-speaks : goal.returns-clause-speaks
returns-clause-speaks c = printed_existentials

pub returns-clause-truth : goal.returns-clause-truth
returns-clause-truth c = existentials_true
