use Rattle.std.proofs.Common.{rules}
use Rattle.proof_constraint.proofs.Skimming.{and_reaches, or_reaches}
use Rattle.proof_constraint.proofs.phrases.joined.Goals as goal

pub returns-in_ok-end_clause-in-Some-true-default-clause-exact : goal.returns-in_ok-end_clause-in-Some-true-default-clause-exact
returns-in_ok-end_clause-in-Some-true-default-clause-exact c =
    or_reaches c.args.draft.now.clauses c.args.draft.now.literals c.begin.new.self c.args.text.now c.in-Some-true-default.rest.now (search rules) (search rules)

pub returns-in-Some-false-default-clause-exact : goal.returns-in-Some-false-default-clause-exact
returns-in-Some-false-default-clause-exact c =
    and_reaches c.args.draft.now.clauses c.args.draft.now.literals c.begin-in-Some-false-default.new.self c.args.text.now c.in-Some-false-default.rest.now (search rules) (search rules) (search rules)
