use Rattle.std.proofs.Common.{map, drop}
use Rattle.base_budget.proofs.Charging.{Left}
use Rattle.base_budget.specs.Trace.{each}
use Rattle.formula.specs.Tree.{form}
use Rattle.sequent.specs.Views.{members_of}
use Rattle.pred_unify.specs.Pairs.{with_predicates}
use Rattle.pred_unify.specs.Reading.{behind}
use Rattle.pred_unify.proofs.pairing.all_predicates.Given as goal

abbrev pub invariant-loop-x : goal.invariant-loop-x
invariant-loop-x l =
    Left (each (λ x. with_predicates (members_of (behind (drop x.first l.holding))) (form x.failing.now.formula)) (drop l.x-index l.met) (map form l.out))
    (each (λ x. with_predicates (members_of (behind (drop x.first l.holding))) (form x.failing.now.formula)) l.met (map form l.fn.out))
