use Rattle.elim_check.proofs.Answering.{accepted_through, through_accepted, same_answer}
use Rattle.elim_check.proofs.laws.answer_law.Goals as goal

pub returns-clause-accepted : goal.returns-clause-accepted
returns-clause-accepted c = λ m log old new d le h. accepted_through m log old le h

pub returns-clause-exactly : goal.returns-clause-exactly
returns-clause-exactly c = λ m log old new d r le h g. through_accepted m log old d r new le h g

pub returns-clause-once : goal.returns-clause-once
returns-clause-once c = λ m log old new end r s h k. same_answer m log old r s new end h k
