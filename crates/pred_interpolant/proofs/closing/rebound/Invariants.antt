use Rattle.std.proofs.Common.{◌≡◌, drop}
use Rattle.pred_interpolant.proofs.Tables.{found}
use Rattle.pred_interpolant.proofs.closing.rebound.Given as goal

abbrev pub invariant-loop-i : goal.invariant-loop-i
invariant-loop-i l = found l.n (drop l.i l.own) l.x l.i ≡ found l.n l.own l.x 0
