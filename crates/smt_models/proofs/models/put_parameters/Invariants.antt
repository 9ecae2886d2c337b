use Rattle.std.proofs.Common.{◌≡◌, ◌-◌, ◌++◌}
use Rattle.smt_models.specs.Models.{parameters_text}
use Rattle.smt_models.proofs.models.put_parameters.Given as goal

abbrev pub invariant-loop-number : goal.invariant-loop-number
invariant-loop-number l = l.out.items ++ parameters_text l.number (l.count - l.number) ≡ l.fn.out.items ++ parameters_text 0 l.count
