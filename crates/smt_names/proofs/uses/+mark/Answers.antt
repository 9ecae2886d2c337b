use Rattle.std.proofs.Common.{sym, ap, ◌∙◌}
use Rattle.smt_names.specs.Body.{shape}
use Rattle.smt_names.specs.Uses.{occurs}
use Rattle.smt_names.proofs.Using.{occurs-more}
use Rattle.smt_names.proofs.uses.+mark.Goals as goal

pub mark_all-loop-body-preserved : goal.mark_all-loop-body-preserved
mark_all-loop-body-preserved t c = λ i h.
    let here = c.mark.ensures i h in
    let so_far = c.loop-body.invariant i here.0 in (
      so_far.0,
      occurs-more i c.args.bodies.now c.loop-body.body-index c.body-item.result c.loop-body-test.true so_far.1 (ap (λ z. occurs i (shape z)) (sym c.body-item.is) ∙ here.1),
    )
