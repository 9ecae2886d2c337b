use Rattle.smt_reader.proofs.PosingChecks.{well_formed}
use Rattle.smt_reader.proofs.check_laws.problem_law.Goals as goal

pub returns : goal.returns
returns c = well_formed
