use Rattle.std.proofs.Common.{rules, ◌≡◌, ◌<◌, ◌≤◌, ◌+◌, ◌-◌, length, refl, arith}
use Rattle.formula.specs.Tree.{form}
use Rattle.model_formulas.proofs.Firsts.{rows_go}
use Rattle.model_formulas.proofs.predicates.by_rows.Goals as goal

pub loop-i-preserved : goal.loop-i-preserved
loop-i-preserved c = rows_go _ _ _ _ c.loop-i.i c.index-rows-i.result _ _ _ _ (omega arith) (omega arith) c.index-rows-i.is c.as_slice.ensures c.in_ok-when.ensures c.in_ok-g.ensures c.loop-i.invariant
