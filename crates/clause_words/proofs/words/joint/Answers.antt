use Rattle.std.proofs.Common.{rules}
use Rattle.clause_words.proofs.Splitting.{no_joint, blank_joint, feed_joint, none_joint}
use Rattle.clause_words.proofs.words.joint.Goals as goal

pub returns-clause-exact : goal.returns-clause-exact
returns-clause-exact c = no_joint c.in-Some.first.now c.args.text.now c.in-Some.rest.now (search rules) (search rules) (search rules)

pub returns-then-first-eq32-clause-exact : goal.returns-then-first-eq32-clause-exact
returns-then-first-eq32-clause-exact c = blank_joint c.in-Some.first.now c.args.text.now c.in-Some.rest.now (search rules) (search rules)

pub returns-then-first-eq10-clause-exact : goal.returns-then-first-eq10-clause-exact
returns-then-first-eq10-clause-exact c = feed_joint c.in-Some.first.now c.args.text.now c.in-Some.rest.now (search rules) (search rules)

pub returns-in_default-clause-exact : goal.returns-in_default-clause-exact
returns-in_default-clause-exact c = none_joint c.args.text.now (search rules)
