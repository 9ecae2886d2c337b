use Rattle.pri_typing.proofs.Least.{least_by-among, least_by-first, least_by-none}
use Rattle.pri_typing.proofs.laws.least_law.Goals as goal

pub returns-clause-among : goal.returns-clause-among
returns-clause-among g c = least_by-among

pub returns-clause-first : goal.returns-clause-first
returns-clause-first g c = λ before xs x o. least_by-first before o xs x

pub returns-clause-none : goal.returns-clause-none
returns-clause-none g c = least_by-none
