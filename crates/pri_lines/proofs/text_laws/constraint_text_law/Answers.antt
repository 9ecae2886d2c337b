use Rattle.pri_lines.proofs.Printed.{speaks, true_where, text_same}
use Rattle.pri_lines.proofs.text_laws.constraint_text_law.Goals as goal

pub returns-clause-alone : goal.returns-clause-alone
returns-clause-alone c = speaks

pub returns-clause-truth : goal.returns-clause-truth
returns-clause-truth c = true_where

pub returns-clause-same : goal.returns-clause-same
returns-clause-same c = text_same
