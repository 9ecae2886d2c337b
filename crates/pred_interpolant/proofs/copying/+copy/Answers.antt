use Rattle.std.proofs.Common.{arith}
use Rattle.pred_interpolant.specs.Copies.{sent}
use Rattle.pred_interpolant.proofs.Copies.{all_from, all_terms_from}
use Rattle.pred_interpolant.proofs.copying.+copy.Goals as goal

pub all-returns : goal.all-returns
all-returns t c = all_from (sent c.args.table.now c.args.more) _ c.args.formulas.now c.loop-f.f-index (omega arith) c.loop-f.invariant

pub all_terms-returns : goal.all_terms-returns
all_terms-returns t c = all_terms_from (sent c.args.table.now c.args.more) _ c.args.terms.now c.loop-t.t-index (omega arith) c.loop-t.invariant
