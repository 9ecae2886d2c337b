use Rattle.linear_term.specs.Range.{InRange}
use Rattle.proof_tokens.specs.Lines.{value_text}
use Rattle.proof_tokens.specs.Reading.{RefusesProof}
use Rattle.proof_tokens.proofs.Refusals.{fails}
use Rattle.proof_tokens.proofs.Integers.{no_value, no_digits, minus_cut}
use Rattle.proof_tokens.proofs.numbers.value.Goals as goal

pub returns-in_err-start-clause-first : goal.returns-in_err-start-clause-first
returns-in_err-start-clause-first c =
    fails c.in_err-start.field-0.0 c.from_residual.result (RefusesProof InRange value_text c.args.text.now) c.from_residual.ensures.1
    (no_value c.args.text.now c.in_err-start.field-0.0 c.in_err-start.ensures.lacks)

pub returns-in_err-size-clause-first : goal.returns-in_err-size-clause-first
returns-in_err-size-clause-first c =
    fails c.in_err-size.field-0.0 c.from_residual-in_err-size.result (RefusesProof InRange value_text c.args.text.now) c.from_residual-in_err-size.ensures.1
    (no_digits c.args.text.now c.in_ok-start.rest.now c.in_err-size.field-0.0 (minus_cut c.in_ok-start.start c.args.text.now c.in_ok-start.rest.now c.in_default.is c.in_ok-start.ensures.found) c.in_err-size.ensures.lacks)
