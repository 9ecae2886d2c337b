use Rattle.std.proofs.Common.{◌≡◌, ◌++◌, length, reverse}
use Rattle.elim_check.proofs.todo.Todo.put.Given as goal

abbrev pub invariant-loop-c : goal.invariant-loop-c
invariant-loop-c l = l.rest ++ reverse l.self-inside.last_first ≡ l.fn.clauses ++ l.fn.self

abbrev pub decreases-loop-c : goal.decreases-loop-c
decreases-loop-c l = length l.rest
