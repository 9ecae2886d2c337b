use Rattle.proof_tokens.specs.Lines.{IsCounted, counted_text}
use Rattle.proof_tokens.specs.Reading.{RefusesProof}
use Rattle.proof_tokens.proofs.Refusals.{fails}
use Rattle.proof_tokens.proofs.CountedLines.{no_blank, no_place, no_count}
use Rattle.proof_tokens.proofs.numbers.counted.Goals as goal

pub returns-in_err-number-clause-first : goal.returns-in_err-number-clause-first
returns-in_err-number-clause-first c =
    fails c.in_err-number.field-0.0 c.from_residual.result (RefusesProof IsCounted counted_text c.args.text.now) c.from_residual.ensures.1
    (no_blank c.args.text.now c.in_err-number.field-0.0 c.in_err-number.ensures.lacks)

pub returns-in_err-place-clause-first : goal.returns-in_err-place-clause-first
returns-in_err-place-clause-first c =
    fails c.in_err-place.field-0.0 c.from_residual-in_err-place.result (RefusesProof IsCounted counted_text c.args.text.now) c.from_residual-in_err-place.ensures.1
    (no_place c.args.text.now c.in_ok-number.number.now c.in_err-place.field-0.0 c.in_ok-number.ensures.found c.in_err-place.ensures.lacks)

pub returns-in_err-count-clause-first : goal.returns-in_err-count-clause-first
returns-in_err-count-clause-first c =
    fails c.in_err-count.field-0.0 c.from_residual-in_err-count.result (RefusesProof IsCounted counted_text c.args.text.now) c.from_residual-in_err-count.ensures.1
    (no_count c.in_ok-place.place c.args.text.now c.in_ok-number.number.now c.in_ok-place.inner.now c.in_err-count.field-0.0 (c.in_ok-place.ensures.found.0, c.in_ok-place.ensures.found.1)
    c.in_ok-number.ensures.found c.in_ok-place.ensures.found.2 c.in_err-count.ensures.first)
