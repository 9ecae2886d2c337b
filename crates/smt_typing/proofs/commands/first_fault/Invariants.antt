use Rattle.std.proofs.Common.{◌≡◌, map, length}
use Rattle.smt_lists.specs.Expressions.{expr}
use Rattle.smt_commands.specs.Faults.{claim_faults}
use Rattle.smt_commands.specs.Least.{least, least_from}
use Rattle.smt_typing.proofs.commands.first_fault.Given as goal

abbrev pub invariant-loop-claim : goal.invariant-loop-claim
invariant-loop-claim g l = least_from l.found (claim_faults (record { faults = g.T.Terms.faults; uses = g.T.Terms.occurs }) l.table.entries (map expr l.rest))
    ≡ least (claim_faults (record { faults = g.T.Terms.faults; uses = g.T.Terms.occurs }) l.table.entries (map expr l.claims))

abbrev pub decreases-loop-claim : goal.decreases-loop-claim
decreases-loop-claim g l = length l.rest
