use Rattle.std.proofs.Common.{◌≡◌}
use Rattle.formula.specs.Sizes.{size}
use Rattle.formula.specs.Tree.{form}
use Rattle.clause_proof.specs.Atoms.{inner_form}
use Rattle.clause_checker.proofs.formulas.inner.Given as goal

abbrev pub invariant-loop-g : goal.invariant-loop-g
invariant-loop-g l = inner_form (form l.rest) ≡ inner_form (form l.f)

abbrev pub decreases-loop-g : goal.decreases-loop-g
decreases-loop-g l = size (form l.rest)
