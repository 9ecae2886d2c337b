use Rattle.std.proofs.Common.{◌≡◌, drop}
use Rattle.smt_commands.specs.Least.{least_from}
use Rattle.smt_typing.specs.Faults.{variable_faults}
use Rattle.smt_typing.proofs.judging.with_variable_faults.Given as goal

abbrev pub invariant-loop-variable : goal.invariant-loop-variable
invariant-loop-variable l = least_from l.found (variable_faults (drop l.variable-index l.variables)) ≡ least_from l.fn.found (variable_faults l.variables)
