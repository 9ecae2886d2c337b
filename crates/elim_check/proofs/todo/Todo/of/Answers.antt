use Rattle.std.proofs.Common.{arith}
use Rattle.elim_check.proofs.Turning.{turned_short}
use Rattle.elim_check.proofs.todo.Todo.of.Goals as goal

pub returns-then-len-lt2 : goal.returns-then-len-lt2
returns-then-len-lt2 c = turned_short c.args.clauses (omega (arith, c.len.ensures, c.if-len-lt2.true))
