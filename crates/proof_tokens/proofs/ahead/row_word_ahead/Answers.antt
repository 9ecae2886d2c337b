use Rattle.std.proofs.Common.{ap, ◌∙◌, ◌++◌}
use Rattle.proof_tokens.proofs.Fronts.{word_front, word_longer}
use Rattle.proof_tokens.proofs.ahead.row_word_ahead.Goals as goal

pub returns-clause-exact : goal.returns-clause-exact
returns-clause-exact c =
    let e = c.in_ok-rest.ensures.exact in
    let is = c.in_ok-token.ensures.exact in
    (word_front c.in_ok-token.token c.args.text.now c.in_ok-rest.rest.now is.0 (e.0 ∙ ap (λ z. z ++ c.in_ok-rest.rest.now) is.1) e.1, word_longer c.in_ok-token.letters.now c.args.text.now c.in_ok-rest.rest.now c.in_ok-token.ensures.some e.0)
