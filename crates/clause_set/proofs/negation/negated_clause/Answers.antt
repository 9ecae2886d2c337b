use Rattle.std.proofs.Common.{arith}
use Rattle.base_budget.proofs.Charging.{drop-item, free, remains_next}
use Rattle.clause_set.proofs.negation.negated_clause.Goals as goal

pub loop-l-preserved : goal.loop-l-preserved
loop-l-preserved c =
    let item = drop-item c.literals-l-items.result.now c.loop-l.l-index c.l-item.result (omega arith) c.l-item.is in
    let inv = rw item at c.loop-l.invariant in
    rw c.in_ok-append.ensures (remains_next _ _ inv (free _ c.in_ok-negated_literal.ensures))
