use Rattle.proof_printer.proofs.Ordering.{parts_ordered}
use Rattle.proof_printer.proofs.Parting.{all_parts, different_parts, parts_again}
use Rattle.proof_printer.proofs.laws.parts_law.Goals as goal

pub returns-clause-again : goal.returns-clause-again
returns-clause-again c = parts_again

pub returns-clause-all : goal.returns-clause-all
returns-clause-all c = all_parts

pub returns-clause-different : goal.returns-clause-different
returns-clause-different c = different_parts

pub returns-clause-order : goal.returns-clause-order
returns-clause-order c = parts_ordered
