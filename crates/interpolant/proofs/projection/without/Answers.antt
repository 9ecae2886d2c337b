use Rattle.interpolant.proofs.Steps.{goes_err, goes_ok, stays_in}
use Rattle.interpolant.proofs.projection.without.Goals as goal

pub returns-then-stays : goal.returns-then-stays
returns-then-stays c = stays_in c.args.stays c.args.x c.args.d c.if-stays.true

pub returns-in_err-out : goal.returns-in_err-out
returns-in_err-out c = goes_err c.args.stays c.args.x c.args.d c.in_err-out.field-0.0 c.from_residual.result c.if-stays.false c.from_residual.ensures.1 c.in_err-out.ensures.charged

pub returns : goal.returns
returns c = goes_ok c.args.stays c.args.x c.args.d c.in_ok-out.out c.in_ok-out._log c.if-stays.false c.in_ok-out.ensures.charged
