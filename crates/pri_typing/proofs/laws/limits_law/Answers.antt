use Rattle.pri_typing.proofs.Answered.{file_resolvable}
use Rattle.pri_typing.proofs.laws.limits_law.Goals as goal

pub returns : goal.returns
returns c = file_resolvable
