use Rattle.std.proofs.Common.{◌∷◌, [], subst, sym}
use Rattle.proof_tokens.specs.Reading.{Cuts}
use Rattle.proof_tokens.specs.declared.tokens.Token.TheVariants as t
use Rattle.proof_tokens.proofs.ahead.figure_ahead.Goals as goal

pub returns-clause-exact : goal.returns-clause-exact
returns-clause-exact c = (subst (λ n. Cuts (t.Number n ∷ []) c.args.text.now c.in_ok-n.rest.now) (sym c.from.ensures) c.in_ok-n.ensures.exact, c.in_ok-n.ensures.shorter)
