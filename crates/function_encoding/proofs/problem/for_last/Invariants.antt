use Rattle.std.proofs.Common.{◌≤◌, ◌+◌, drop, length, Ok}
use Rattle.base_budget.specs.Trace.{Traced}
use Rattle.formula.specs.Form.{Form}
use Rattle.formula.specs.Made.{Made}
use Rattle.formula.specs.Tree.{form}
use Rattle.form_encoding.specs.Root.{for_last}
use Rattle.function_encoding.proofs.problem.for_last.Given as goal

abbrev pub invariant-loop-i : goal.invariant-loop-i
invariant-loop-i l =
    (l.i ≤ length l.sorts) × ((work : Traced Form) → Made form work (Ok l.fn.f) → Made form (for_last (l.first + l.i) (drop l.i l.sorts) work) (Ok l.all))

abbrev pub decreases-loop-i : goal.decreases-loop-i
decreases-loop-i l = l.i
