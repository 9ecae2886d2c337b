use Rattle.std.proofs.Common.{◌≡◌, ◌++◌, ◌-◌, replicate}
use Rattle.smt_models.proofs.tables.put_closes.Given as goal

abbrev pub invariant-loop : goal.invariant-loop
invariant-loop l = l.out.items ++ replicate (l.count - l.counter) 41 ≡ l.fn.out.items ++ replicate l.count 41
