use Rattle.std.proofs.Common.{◌≡◌, ◌++◌, drop}
use Rattle.smt_models.specs.Values.{integer_values}
use Rattle.smt_models.proofs.values.integer_values.Given as goal

abbrev pub invariant-loop-i : goal.invariant-loop-i
invariant-loop-i l = l.found ++ integer_values (drop l.i l.names) (drop l.i l.numbers) ≡ integer_values l.names l.numbers
