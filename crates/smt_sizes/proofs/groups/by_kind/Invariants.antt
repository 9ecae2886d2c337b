use Rattle.std.proofs.Common.{◌≡◌, drop, if◌then◌else◌}
use Rattle.smt_sizes.specs.Linear.{sum}
use Rattle.smt_sizes.specs.Operators.{by_kind}
use Rattle.smt_sizes.proofs.groups.by_kind.Given as goal

abbrev pub invariant-loop-kind : goal.invariant-loop-kind
invariant-loop-kind l = by_kind (λ b. if b then l.formula else l.term) l.kinds (sum l.fn.before) ≡ by_kind (λ b. if b then l.formula else l.term) (drop l.kind-index l.kinds) (sum l.all)
