use Rattle.std.proofs.Common.{rules}
use Rattle.proof_tokens.proofs.Unseen.{longer_word}
use Rattle.proof_tokens.proofs.ahead.word_ahead.Goals as goal

pub returns-else-ends_word-clause-exact : goal.returns-else-ends_word-clause-exact
returns-else-ends_word-clause-exact c = longer_word c.args.text.now c.args.word.now c.in_ok-rest.rest.now c.in_ok-rest.ensures (search rules)
