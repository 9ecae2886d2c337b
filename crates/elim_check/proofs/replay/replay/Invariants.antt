use Rattle.std.proofs.Common.{length, ◌-◌}
use Rattle.elim_check.specs.Steps.{replaying}
use Rattle.elim_check.proofs.Chained.{Reads}
use Rattle.elim_check.proofs.Replaying.{onward}
use Rattle.elim_check.proofs.replay.replay.Given as goal

abbrev pub invariant-entries : goal.invariant-entries
invariant-entries l = Reads (onward l.x l.todo l.out) l.log l.place l.purse (replaying l.x l.fn.clauses) l.fn.place l.fn.purse

abbrev pub decreases-entries : goal.decreases-entries
decreases-entries l = length l.log - l.place
