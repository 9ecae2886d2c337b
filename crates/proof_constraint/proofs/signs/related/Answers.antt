use Rattle.proof_constraint.proofs.Skimming.{bound_cut}
use Rattle.proof_constraint.proofs.signs.related.Goals as goal

pub returns-in_ok-at_least-in_default-clause-exact : goal.returns-in_ok-at_least-in_default-clause-exact
returns-in_ok-at_least-in_default-clause-exact c = bound_cut c.args.text.now c.in_ok-at_least-in_default.field-0.now c.in_ok-at_least-in_default.ensures.exact
