use Rattle.std.proofs.Common.{◌≡◌, length}
use Rattle.countermodel.specs.Probes.{probe_values}
use Rattle.countermodel.proofs.Joining.{behind}
use Rattle.countermodel.proofs.probing.probe.Given as goal

abbrev pub invariant-loop-sort : goal.invariant-loop-sort
invariant-loop-sort l = behind l.values (probe_values l.rest) ≡ probe_values l.p.existential_types

abbrev pub decreases-loop-sort : goal.decreases-loop-sort
decreases-loop-sort l = length l.rest
