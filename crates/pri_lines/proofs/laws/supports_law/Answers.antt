use Rattle.pri_lines.proofs.Supporting.{closed_holds, supports}
use Rattle.pri_lines.proofs.laws.supports_law.Goals as goal

pub returns-clause-printed : goal.returns-clause-printed
returns-clause-printed c = supports

pub returns-clause-closed : goal.returns-clause-closed
returns-clause-closed c = closed_holds
