use Rattle.std.proofs.Common.{rules}
use Rattle.proof_constraint.proofs.Skimming.{true_reaches}
use Rattle.proof_constraint.proofs.phrases.true_clause.Goals as goal

pub returns-then-is_none-clause-exact : goal.returns-then-is_none-clause-exact
returns-then-is_none-clause-exact c = true_reaches c.args.draft.now c.args.text.now c.in-Some.rest.now (search rules) (search rules) c.in-Some.ensures.exact
