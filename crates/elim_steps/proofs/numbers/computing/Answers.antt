use Rattle.elim_steps.proofs.Works.{compute_err}
use Rattle.elim_steps.proofs.numbers.computing.Goals as goal

pub returns-in_err-value-clause-work : goal.returns-in_err-value-clause-work
returns-in_err-value-clause-work c =
    compute_err c.args.ps.now c.loop-p.p-index _ c.in_err-value.field-0.0 c.from_residual.result c.loop-p-test.true c.from_residual.ensures.1 c.in_err-value.ensures.overflow
