use Rattle.pri_tokens.proofs.Writing.{alone, written}
use Rattle.pri_tokens.proofs.laws.spelling_law.Goals as goal

pub returns-clause-written : goal.returns-clause-written
returns-clause-written c = written

pub returns-clause-alone : goal.returns-clause-alone
returns-clause-alone c = alone
