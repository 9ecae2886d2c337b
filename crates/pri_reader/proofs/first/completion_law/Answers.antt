use Rattle.pri_reader.proofs.FinishMoves.{completion}
use Rattle.pri_reader.proofs.first.completion_law.Goals as goal

pub returns : goal.returns
returns c = λ s want frames r. completion s want frames r
