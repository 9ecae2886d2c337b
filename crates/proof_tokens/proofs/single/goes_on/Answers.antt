use Rattle.std.proofs.Common.{rules}
use Rattle.proof_tokens.proofs.SignBytes.{neither_sign}
use Rattle.proof_tokens.proofs.single.goes_on.Goals as goal

pub returns-clause-lacks : goal.returns-clause-lacks
returns-clause-lacks c = neither_sign c.in-Some.first.now c.args.text.now c.in-Some.rest.now (search rules) (search rules) (search rules)
