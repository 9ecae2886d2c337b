use Rattle.std.proofs.Common.{arith}
use Rattle.model_printer.proofs.Modelled.{blanks_step}
use Rattle.model_printer.proofs.models.put_blanks.Goals as goal

pub loop-preserved : goal.loop-preserved
loop-preserved c =
    blanks_step _ _ _ _ c.args.n c.loop.counter (omega arith) c.in_ok-extend_from_slice.ensures.items c.in_ok-extend_from_slice-2.ensures.items c.loop.invariant
