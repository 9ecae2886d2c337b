use Rattle.std.proofs.Common.{rules}
use Rattle.pred_interpolant.proofs.Tables.{quantified-last}
use Rattle.pred_interpolant.proofs.closing.quantified.Goals as goal

pub loop-last-preserved : goal.loop-last-preserved
loop-last-preserved c = search (rules, quantified-last)
