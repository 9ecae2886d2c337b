use Rattle.solve_laws.proofs.Values.{solution_in}
use Rattle.solve_laws.proofs.range.range_law.Goals as goal

pub returns : goal.returns
returns c = solution_in
