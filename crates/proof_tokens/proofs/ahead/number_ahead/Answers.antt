use Rattle.std.proofs.Common.{rules}
use Rattle.proof_tokens.proofs.Fronts.{number_front}
use Rattle.proof_tokens.proofs.Unseen.{no_number}
use Rattle.proof_tokens.proofs.ahead.number_ahead.Goals as goal

pub returns-clause-exact : goal.returns-clause-exact
returns-clause-exact c = number_front c.in_ok-n.n c.args.text.now c.in_ok-n.rest.now (search rules) c.in_ok-n.ensures.exact.0 c.in_ok-n.ensures.exact.1

pub returns-in_err-n-clause-exact : goal.returns-in_err-n-clause-exact
returns-in_err-n-clause-exact c = rw c.from_residual.ensures (no_number c.args.text.now c.in_err-n.ensures.exact)
