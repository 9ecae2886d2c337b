use Rattle.std.proofs.Common.{[], map, drop}
use Rattle.base_budget.proofs.Charging.{Left}
use Rattle.pred_unify.specs.Pairs.{equations}
use Rattle.formula.specs.Tree.{form}
use Rattle.pred_unify.proofs.pairing.equations.Given as goal

abbrev pub invariant-loop-i : goal.invariant-loop-i
invariant-loop-i l = Left (equations (drop l.i l.ss) (drop l.i l.ts) (map form l.out)) (equations l.ss l.ts [])
