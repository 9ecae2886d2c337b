use Rattle.std.proofs.Common.{drop, pos, true}
use Rattle.linear_term.specs.Linear.{number}
use Rattle.clause_proof.specs.Lines as lines
use Rattle.clause_checker.specs.Views.{definitions_of}
use Rattle.clause_checker.proofs.Sums.{SumLeft}
use Rattle.clause_checker.proofs.summing.sum_of.Given as goal

abbrev pub invariant-loop-x : goal.invariant-loop-x
invariant-loop-x l = SumLeft (definitions_of l.definitions) (drop l.x-index l.factors) l.sum (lines.sum_of (definitions_of l.definitions) l.factors (number (pos 0), true))
