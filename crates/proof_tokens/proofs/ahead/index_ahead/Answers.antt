use Rattle.std.proofs.Common.{rules}
use Rattle.proof_tokens.proofs.Unseen.{ended_none, goes_on_there}
use Rattle.proof_tokens.proofs.ahead.index_ahead.Goals as goal

pub returns-in_err-value-clause-exact : goal.returns-in_err-value-clause-exact
returns-in_err-value-clause-exact c = rw c.from_residual.ensures (ended_none c.args.text.now c.in_err-value.ensures.exact)

pub returns-else-ends_word-clause-exact : goal.returns-else-ends_word-clause-exact
returns-else-ends_word-clause-exact c = goes_on_there c.args.text.now c.in_ok-value.rest.now c.in_ok-value.ensures.behind (search rules)
