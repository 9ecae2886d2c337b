use Rattle.std.proofs.Common.{◌&&◌, not, length}
use Rattle.function_encoding.specs.Marks.{is_marked}
use Rattle.pred_interpolant.proofs.Tables.{kept_next}
use Rattle.pred_interpolant.proofs.closing.only_first.Goals as goal

pub loop-x-preserved : goal.loop-x-preserved
loop-x-preserved c =
    kept_next (λ x. is_marked c.args.first.now x && not (is_marked c.args.second.now x)) _ c.loop-x.own.items _ _ c.loop-x.x (length c.args.first.now) c.loop-x-test.true c.is_only_first.ensures
    c.in_ok-put_kept.ensures c.loop-x.invariant
