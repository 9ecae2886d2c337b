use Rattle.pred_interpolant.proofs.Tables.{sort_first, sort_last, sort_none}
use Rattle.pred_interpolant.proofs.closing.sort_at.Goals as goal

pub returns-then-x-first : goal.returns-then-x-first
returns-then-x-first c = sort_first c.as_slice-first.result.now c.args.p.now.existential_types c.args.p.now.universal_types c.args.x c.as_slice-first.ensures c.if-x-first.true

pub returns-then-x-first-2 : goal.returns-then-x-first-2
returns-then-x-first-2 c =
    sort_last c.as_slice-first.result.now c.as_slice-last.result.now c.args.p.now.existential_types c.args.p.now.universal_types c.args.x c.as_slice-first.ensures c.as_slice-last.ensures c.if-x-first.false
    c.if-x-first-2.true

pub returns-else-x-first-2 : goal.returns-else-x-first-2
returns-else-x-first-2 c =
    sort_none c.as_slice-first.result.now c.as_slice-last.result.now c.args.p.now.existential_types c.args.p.now.universal_types c.args.x c.as_slice-first.ensures c.as_slice-last.ensures c.if-x-first.false
    c.if-x-first-2.false
