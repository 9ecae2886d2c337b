use Rattle.std.proofs.Common.{rules}
use Rattle.proof_tokens.specs.declared.tokens.Token.TheVariants as t
use Rattle.proof_tokens.proofs.Fronts.{word_front}
use Rattle.proof_tokens.proofs.Unseen.{no_true}
use Rattle.proof_tokens.proofs.ahead.true_ahead.Goals as goal

pub returns-clause-exact : goal.returns-clause-exact
returns-clause-exact c = word_front t.True c.args.text.now c.in_ok-rest.rest.now tt (search rules) (search rules)

pub returns-in_err-rest-clause-exact : goal.returns-in_err-rest-clause-exact
returns-in_err-rest-clause-exact c = rw c.from_residual.ensures (no_true c.args.text.now c.as_slice.result.now (search rules) c.in_err-rest.ensures.exact)
