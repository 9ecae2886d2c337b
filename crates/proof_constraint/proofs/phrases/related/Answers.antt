use Rattle.std.proofs.Common.{rules}
use Rattle.proof_constraint.proofs.Skimming.{related_reaches}
use Rattle.proof_constraint.proofs.phrases.related.Goals as goal

pub returns-clause-exact : goal.returns-clause-exact
returns-clause-exact c =
    related_reaches c.args.last c.args.draft.now c.end_compared.new.self c.in-Some.constant c.in-Some-relation_ahead.bound c.args.text.now c.in-Some-relation_ahead.rest.now
    (search rules) (search rules) (search rules) (search rules) c.in-Some-relation_ahead.ensures.exact
