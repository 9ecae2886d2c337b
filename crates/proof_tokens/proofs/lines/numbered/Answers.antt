use Rattle.proof_tokens.specs.Lines.{LiesBetween, numbered_text}
use Rattle.proof_tokens.specs.Reading.{RefusesProof}
use Rattle.proof_tokens.proofs.Refusals.{fails}
use Rattle.proof_tokens.proofs.NumberLines.{no_blank, no_number, no_end}
use Rattle.proof_tokens.proofs.lines.numbered.Goals as goal

pub returns-in_err-number-clause-first : goal.returns-in_err-number-clause-first
returns-in_err-number-clause-first c =
    fails c.in_err-number.field-0.0 c.from_residual.result (RefusesProof (LiesBetween c.args.least c.args.most) numbered_text c.args.text.now) c.from_residual.ensures.1
    (no_blank c.args.least c.args.most c.args.text.now c.in_err-number.field-0.0 c.requires c.in_err-number.ensures.lacks)

pub returns-in_err-amount-clause-first : goal.returns-in_err-amount-clause-first
returns-in_err-amount-clause-first c =
    fails c.in_err-amount.field-0.0 c.from_residual-in_err-amount.result (RefusesProof (LiesBetween c.args.least c.args.most) numbered_text c.args.text.now) c.from_residual-in_err-amount.ensures.1
    (no_number c.args.least c.args.most c.args.text.now c.in_ok-number.number.now c.in_err-amount.field-0.0 c.requires c.in_ok-number.ensures.found c.in_err-amount.ensures.lacks)

pub returns-in_err-rest-clause-first : goal.returns-in_err-rest-clause-first
returns-in_err-rest-clause-first c =
    fails c.in_err-rest.field-0.0 c.from_residual-in_err-rest.result (RefusesProof (LiesBetween c.args.least c.args.most) numbered_text c.args.text.now) c.from_residual-in_err-rest.ensures.1
    (no_end c.args.least c.args.most c.in_ok-amount.amount c.args.text.now c.in_ok-number.number.now c.in_ok-amount.end.now c.in_err-rest.field-0.0
    (c.in_ok-amount.ensures.found.0, c.in_ok-amount.ensures.found.1) c.in_ok-number.ensures.found c.in_ok-amount.ensures.found.2 c.in_err-rest.ensures.lacks)
