use Rattle.std.proofs.Common.{rules}
use Rattle.proof_tokens.proofs.Fronts.{name_front}
use Rattle.proof_tokens.proofs.Unseen.{no_letter, no_name}
use Rattle.proof_tokens.proofs.ahead.name_ahead.Goals as goal

pub returns-clause-exact : goal.returns-clause-exact
returns-clause-exact c = name_front c.in_ok-x.x c.args.text.now c.in_ok-first.behind.now c.in_ok-x.rest.now (search rules) (search rules) c.in_ok-x.ensures.exact.0 c.in_ok-x.ensures.exact.1

pub returns-then-first-ne99-clause-exact : goal.returns-then-first-ne99-clause-exact
returns-then-first-ne99-clause-exact c = no_letter c.in_ok-first.first.now c.args.text.now c.in_ok-first.behind.now (search rules) (search rules)

pub returns-in_err-x-clause-exact : goal.returns-in_err-x-clause-exact
returns-in_err-x-clause-exact c = rw c.from_residual-in_err-x.ensures (no_name c.args.text.now c.in_ok-first.behind.now (search rules) c.in_err-x.ensures.exact)
