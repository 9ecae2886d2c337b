use Rattle.elim_laws.specs.Logs.{names_by_log}
use Rattle.elim_check.proofs.Chained.{Reads}
use Rattle.elim_check.proofs.names.some_values.Given as goal

abbrev pub invariant-names : goal.invariant-names
invariant-names l = Reads (names_by_log l.left l.rest) l.log l.place l.purse (names_by_log l.fn.names l.fn.d) l.fn.place l.fn.purse

abbrev pub decreases-names : goal.decreases-names
decreases-names l = l.left
