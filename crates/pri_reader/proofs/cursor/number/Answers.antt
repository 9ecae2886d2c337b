use Rattle.pri_reader.proofs.Numbers.{number_great}
use Rattle.pri_reader.proofs.cursor.number.Goals as goal

pub returns-in_default-clause-failed : goal.returns-in_default-clause-failed
returns-in_default-clause-failed c = number_great c.in_ok-first.ensures.found (rw c.spelling.ensures at c.in_default.ensures.exact)
