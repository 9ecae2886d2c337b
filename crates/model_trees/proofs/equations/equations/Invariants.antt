use Rattle.std.proofs.Common.{◌≡◌, ◌++◌, ◌+◌, All, length}
use Rattle.std.specs.List.{AllByRecursion}
use Rattle.linear_term.specs.Range.{InRange}
use Rattle.clause_set.specs.Literals.{HasDivisor}
use Rattle.model_trees.specs.Walk.{equations_from}
use Rattle.model_trees.proofs.equations.equations.Given as goal

abbrev pub invariant-loop-value : goal.invariant-loop-value
invariant-loop-value l = AllByRecursion InRange l.rest × (l.j + length l.rest ≡ length l.fn.v) × (l.out ++ equations_from l.j l.rest ≡ equations_from 0 l.fn.v) × All HasDivisor l.out

abbrev pub decreases-loop-value : goal.decreases-loop-value
decreases-loop-value l = length l.rest
