use Rattle.itp_sides.proofs.Quantifying.{strongest, weakest}
use Rattle.itp_sides.proofs.laws.closing_law.Goals as goal

pub returns-clause-strongest : goal.returns-clause-strongest
returns-clause-strongest c = strongest

pub returns-clause-weakest : goal.returns-clause-weakest
returns-clause-weakest c = weakest
