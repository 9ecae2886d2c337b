use Rattle.std.proofs.Common.{◌∷◌, ◌++◌, [], ap, ◌∙◌}
use Rattle.itp_sides.specs.Closing.{rebound}
use Rattle.pred_interpolant.proofs.Tables.{table_next}
use Rattle.pred_interpolant.proofs.closing.table_of.Goals as goal

pub loop-x-preserved : goal.loop-x-preserved
loop-x-preserved c =
    table_next (rebound c.args.n c.args.own.now) c.loop-x.table.items _ _ c.loop-x.x c.args.n c.loop-x-test.true
    (c.in_ok-push.ensures.items ∙ ap (λ y. c.loop-x.table.items ++ y ∷ []) c.rebound.ensures) c.loop-x.invariant
