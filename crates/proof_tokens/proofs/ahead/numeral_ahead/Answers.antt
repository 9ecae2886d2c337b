use Rattle.std.proofs.Common.{rules}
use Rattle.proof_tokens.proofs.Fronts.{numeral_front, numeral_longer, begins}
use Rattle.proof_tokens.proofs.Unseen.{none_left, not_begun, too_great_there}
use Rattle.proof_tokens.proofs.ahead.numeral_ahead.Goals as goal

pub returns-clause-exact : goal.returns-clause-exact
returns-clause-exact c =
    let h = begins c.in_ok-first.first.now c.in_ok-first.behind.now (search rules) in
    numeral_front c.in_ok-first.first.now c.in_ok-first.behind.now c.args.text.now c.in_ok-value.rest.now c.in_ok-value.value (search rules) h.0 (search rules) h.1 (search rules) (search rules)

pub returns-clause-shorter : goal.returns-clause-shorter
returns-clause-shorter c =
    let h = begins c.in_ok-first.first.now c.in_ok-first.behind.now (search rules) in
    numeral_longer c.in_ok-first.first.now c.in_ok-first.behind.now c.args.text.now c.in_ok-value.rest.now (search rules) h.0 (search rules)

pub returns-in_err-first-clause-exact : goal.returns-in_err-first-clause-exact
returns-in_err-first-clause-exact c = rw c.from_residual.ensures (none_left c.args.text.now (search rules))

pub returns-then-not-begins_numeral-clause-exact : goal.returns-then-not-begins_numeral-clause-exact
returns-then-not-begins_numeral-clause-exact c = not_begun c.in_ok-first.first.now c.args.text.now c.in_ok-first.behind.now (search rules) (search rules)

pub returns-in_err-value-clause-exact : goal.returns-in_err-value-clause-exact
returns-in_err-value-clause-exact c = rw c.from_residual-in_err-value.ensures (too_great_there c.args.text.now c.in_err-value.ensures)
