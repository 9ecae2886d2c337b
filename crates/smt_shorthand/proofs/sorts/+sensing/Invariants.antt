use Rattle.std.proofs.Common.{◌≡◌, ◌++◌, drop}
use Rattle.smt_lists.specs.Expressions.{exprs_of}
use Rattle.smt_shorthand.specs.Sorts.{senses_of}
use Rattle.smt_shorthand.proofs.sorts.+sensing.Given as goal

abbrev pub invariant-read_senses-loop-e : goal.invariant-read_senses-loop-e
invariant-read_senses-loop-e l = l.all ++ senses_of l.sorts l.parameters (exprs_of (drop l.e-index l.es)) ≡ senses_of l.sorts l.parameters (exprs_of l.es)
