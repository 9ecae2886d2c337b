use Rattle.std.proofs.Common.{◌≤◌, ◌<◌, ◌+◌, ◌-◌, ◌^◌, arith}
use Rattle.formula.specs.Shifts.{IsBelow}
use Rattle.formula.specs.Tree.{form}
use Rattle.pred_unify.proofs.Making.{all_behind}
use Rattle.pred_unify.proofs.pairing.all_brought.Goals as goal

pub shift-requires-clause-rising : goal.shift-requires-clause-rising
shift-requires-clause-rising c =
    (all_behind (λ m. (m.over ≤ c.args.count) × (m.used + 1 < 2 ^ 32) × IsBelow (2 ^ 32 - (c.args.count - m.over)) (form m.formula)) c.args.members.now c.loop-m.m-index c.m-item.result (omega arith) c.m-item.is c.requires).0

pub shift-requires-clause-below : goal.shift-requires-clause-below
shift-requires-clause-below c =
    (all_behind (λ m. (m.over ≤ c.args.count) × (m.used + 1 < 2 ^ 32) × IsBelow (2 ^ 32 - (c.args.count - m.over)) (form m.formula)) c.args.members.now c.loop-m.m-index c.m-item.result (omega arith) c.m-item.is c.requires).2
