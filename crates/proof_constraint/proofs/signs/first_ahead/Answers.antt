use Rattle.std.proofs.Common.{rules}
use Rattle.proof_tokens.specs.declared.tokens.Token.TheVariants as t
use Rattle.proof_constraint.proofs.Skimming.{minus_cut}
use Rattle.proof_constraint.proofs.signs.first_ahead.Goals as goal

pub returns-in-Some-eq45-default-clause-exact : goal.returns-in-Some-eq45-default-clause-exact
returns-in-Some-eq45-default-clause-exact c = minus_cut (t.Name c.in_ok-name.name) c.args.text.now c.in-Some-eq45-default.behind.now c.in_ok-name.rest.now (search rules) c.in_ok-name.ensures.exact
