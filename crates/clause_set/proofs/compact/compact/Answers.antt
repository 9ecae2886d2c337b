use Rattle.std.proofs.Common.{◌≡◌, ◌∙◌, ap, subst}
use Rattle.std.specs.Prelude.{IfOk}
use Rattle.clause_set.specs.Clauses.{compact}
use Rattle.clause_set.proofs.Reordered.{compact-sorted}
use Rattle.clause_set.proofs.compact.compact.Goals as goal

pub returns-then-rise-2 : goal.returns-then-rise-2
returns-then-rise-2 c =
    subst (λ form. IfOk c.of_rising-then-rise-2.result (λ answer. answer ≡ form)) (compact-sorted c.args.literals c.in_ok-sorted.sorted c.in_ok-sorted.ensures) c.of_rising-then-rise-2.ensures

pub returns : goal.returns
returns c =
    subst (λ form. IfOk c.by_bounds.result (λ answer. answer ≡ form)) (ap compact c.as_slice-3.ensures ∙ compact-sorted c.args.literals c.in_ok-sorted.sorted c.in_ok-sorted.ensures) c.by_bounds.ensures
