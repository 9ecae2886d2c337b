use Rattle.std.proofs.Common.{rules}
use Rattle.proof_tokens.specs.Spellings.{token_of}
use Rattle.proof_tokens.proofs.Fronts.{word_front, word_is_token}
use Rattle.proof_tokens.proofs.single.word.Goals as goal

pub returns-in-Some-clause-found : goal.returns-in-Some-clause-found
returns-in-Some-clause-found c = word_front (token_of c.args.word) c.args.text.now c.in-Some.rest.now (word_is_token c.args.word) (search rules) (search rules)
