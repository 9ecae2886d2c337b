use Rattle.std.proofs.Common.{map, drop}
use Rattle.base_budget.proofs.Charging.{Left}
use Rattle.pred_unify.specs.Pairs.{function_pairs}
use Rattle.formula.specs.Tree.{form}
use Rattle.sequent.specs.Views.{members_of}
use Rattle.pred_unify.specs.Reading.{behind}
use Rattle.pred_unify.proofs.pairing.later_values.Given as goal

abbrev pub invariant-loop-i : goal.invariant-loop-i
invariant-loop-i l = Left (function_pairs (members_of (behind (drop l.i l.members))) (map form l.out)) (function_pairs (members_of (behind l.members)) (map form l.fn.out))
