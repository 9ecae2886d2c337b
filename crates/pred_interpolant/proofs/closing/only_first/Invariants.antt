use Rattle.std.proofs.Common.{◌≡◌, ◌++◌, ◌-◌, ◌&&◌, not, length}
use Rattle.std.specs.List.{filter}
use Rattle.function_encoding.specs.Marks.{is_marked}
use Rattle.itp_sides.specs.Closing.{numbers_from}
use Rattle.pred_interpolant.proofs.closing.only_first.Given as goal

abbrev pub invariant-loop-x : goal.invariant-loop-x
invariant-loop-x l = l.own.items ++ filter (λ x. is_marked l.first x && not (is_marked l.second x)) (numbers_from l.x (length l.first - l.x))
    ≡ filter (λ x. is_marked l.first x && not (is_marked l.second x)) (numbers_from 0 (length l.first))
