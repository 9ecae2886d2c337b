use Rattle.std.proofs.Common.{◌≡◌, ◌++◌, ◌-◌, map}
use Rattle.itp_sides.specs.Closing.{numbers_from, rebound}
use Rattle.pred_interpolant.proofs.closing.table_of.Given as goal

abbrev pub invariant-loop-x : goal.invariant-loop-x
invariant-loop-x l = l.table.items ++ map (rebound l.n l.own) (numbers_from l.x (l.n - l.x)) ≡ map (rebound l.n l.own) (numbers_from 0 l.n)
