use Rattle.std.proofs.Common.{rules}
use Rattle.proof_tokens.proofs.SignBytes.{no_feed}
use Rattle.proof_tokens.proofs.single.line_feed.Goals as goal

pub returns-else-first-eq10-clause-lacks : goal.returns-else-first-eq10-clause-lacks
returns-else-first-eq10-clause-lacks c = no_feed c.in-Some.first.now c.args.text.now c.in-Some.rest.now (search rules) (search rules)
