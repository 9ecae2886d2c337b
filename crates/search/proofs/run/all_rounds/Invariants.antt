use Rattle.std.proofs.Common.{◌+◌, ◌-◌}
use Rattle.formula.specs.Tree.{form}
use Rattle.search.proofs.Rounding.{Turn}
use Rattle.search.proofs.run.all_rounds.Given as goal

abbrev pub invariant-loop-found : goal.invariant-loop-found
invariant-loop-found g l = Turn (form l.root) l.constants l.limit l.purse l.course l.fn.purse l.fn.course

abbrev pub decreases-loop-found : goal.decreases-loop-found
decreases-loop-found g l = l.fn.purse.budget + 1 - l.limit
