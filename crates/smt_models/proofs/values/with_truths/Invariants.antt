use Rattle.std.proofs.Common.{◌≡◌, ◌++◌, drop}
use Rattle.smt_models.specs.Values.{truth_values}
use Rattle.smt_models.proofs.values.with_truths.Given as goal

abbrev pub invariant-loop-i : goal.invariant-loop-i
invariant-loop-i l = l.found ++ truth_values (drop l.i l.symbols) l.tables l.i ≡ l.fn.found ++ truth_values l.symbols l.tables 0
