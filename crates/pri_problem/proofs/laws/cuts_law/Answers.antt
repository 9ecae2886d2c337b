use Rattle.pri_problem.proofs.Cuts.{poses_cuttable}
use Rattle.pri_problem.proofs.laws.cuts_law.Goals as goal

pub returns : goal.returns
returns c = poses_cuttable
