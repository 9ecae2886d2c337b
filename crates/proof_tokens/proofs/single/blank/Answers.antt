use Rattle.std.proofs.Common.{rules}
use Rattle.proof_tokens.proofs.SignBytes.{no_blank}
use Rattle.proof_tokens.proofs.single.blank.Goals as goal

pub returns-else-first-eq32-clause-lacks : goal.returns-else-first-eq32-clause-lacks
returns-else-first-eq32-clause-lacks c = no_blank c.in-Some.first.now c.args.text.now c.in-Some.rest.now (search rules) (search rules)
