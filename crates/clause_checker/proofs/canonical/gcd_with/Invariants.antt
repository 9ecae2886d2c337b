use Rattle.std.proofs.Common.{◌≡◌, drop}
use Rattle.linear_term.specs.Range.{InRange}
use Rattle.clause_proof.specs.Atoms.{gcd_with}
use Rattle.clause_checker.proofs.canonical.gcd_with.Given as goal

abbrev pub invariant-loop-pair : goal.invariant-loop-pair
invariant-loop-pair l = record {
  exact : gcd_with l.found (drop l.pair-index l.pairs) ≡ gcd_with l.fn.g l.pairs;
  range : InRange l.found;
}
