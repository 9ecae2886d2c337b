use Rattle.std.proofs.Common.{◌≡◌, ◌++◌, drop, map}
use Rattle.smt_lists.specs.Expressions.{expr, exprs_of}
use Rattle.smt_shorthand.specs.Resolving.{row_resolved}
use Rattle.smt_shorthand.proofs.resolving.+resolving.Given as goal

abbrev pub invariant-resolve_row-loop-e : goal.invariant-resolve_row-loop-e
invariant-resolve_row-loop-e l = map expr l.out ++ row_resolved l.sorts l.row (exprs_of (drop l.e-index l.es)) ≡ row_resolved l.sorts l.fn.row (exprs_of l.es)
