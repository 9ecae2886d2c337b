use Rattle.std.proofs.Common.{◌≡◌, drop, IfSome}
use Rattle.linear_term.specs.Range.{InRange}
use Rattle.clause_set.specs.Clauses.{least, slack}
use Rattle.clause_set.specs.Normal.{negated}
use Rattle.clause_set.proofs.bounds.opposite_slack.Given as goal

abbrev pub invariant-loop-literal : goal.invariant-loop-literal
invariant-loop-literal l = record {
  exact : least l.found (slack (drop l.literal-index l.literals) (negated l.p)) ≡ slack l.literals (negated l.p);
  range : IfSome l.found (λ k. InRange k);
}
