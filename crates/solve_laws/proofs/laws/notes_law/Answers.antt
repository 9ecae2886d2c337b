use Rattle.solve_laws.proofs.Noting.{solving_logs}
use Rattle.solve_laws.proofs.laws.notes_law.Goals as goal

pub returns : goal.returns
returns c = solving_logs
