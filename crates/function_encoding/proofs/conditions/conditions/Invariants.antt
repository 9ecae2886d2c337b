use Rattle.std.proofs.Common.{◌+◌, ◌||◌, drop, map}
use Rattle.base_budget.proofs.Charging.{Left}
use Rattle.formula.specs.Tree.{form}
use Rattle.function_encoding.specs.Marks.{is_marked}
use Rattle.function_encoding.proofs.Kept.{left_over}
use Rattle.function_encoding.proofs.conditions.conditions.Given as goal

abbrev pub invariant-loop-i : goal.invariant-loop-i
invariant-loop-i l =
    Left (left_over (λ x. l.all || is_marked l.marks x) (l.first + l.i) (drop l.i l.sorts) (map form l.formulas)) (left_over (λ x. l.all || is_marked l.marks x) l.first l.sorts (map form l.fn.out))
