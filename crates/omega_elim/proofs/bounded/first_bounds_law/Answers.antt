use Rattle.omega_elim.proofs.Choice.{first_bounds}
use Rattle.omega_elim.proofs.bounded.first_bounds_law.Goals as goal

pub returns : goal.returns
returns c = first_bounds
