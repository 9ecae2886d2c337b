use Rattle.std.proofs.Common.{rules}
use Rattle.pri_typing.proofs.Building.{quantifiers-last}
use Rattle.pri_typing.proofs.build.quantify.Goals as goal

pub loop-last-preserved : goal.loop-last-preserved
loop-last-preserved c = search (rules, quantifiers-last)
