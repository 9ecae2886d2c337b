use Rattle.std.proofs.Common.{arith}
use Rattle.proof_tokens.specs.declared.tokens.Token.TheVariants as t
use Rattle.proof_tokens.specs.Lines.{IsCharges, charges_text, numbered_text}
use Rattle.proof_tokens.specs.Reading.{RefusesProof}
use Rattle.proof_tokens.proofs.Refusals.{fails, no_word, refused_behind}
use Rattle.proof_tokens.proofs.lines.charges.Goals as goal

pub returns-in_err-inner-clause-first : goal.returns-in_err-inner-clause-first
returns-in_err-inner-clause-first c =
    fails c.in_err-inner.field-0.0 c.from_residual.result (RefusesProof IsCharges charges_text c.args.text.now) c.from_residual.ensures.1
    (no_word IsCharges numbered_text t.Charges 0 c.args.text.now c.in_err-inner.field-0.0 (omega arith, omega arith) c.in_err-inner.ensures.lacks)

pub returns-in_err-amount-clause-first : goal.returns-in_err-amount-clause-first
returns-in_err-amount-clause-first c =
    fails c.in_err-amount.field-0.0 c.from_residual-in_err-amount.result (RefusesProof IsCharges charges_text c.args.text.now) c.from_residual-in_err-amount.ensures.1
    (refused_behind IsCharges numbered_text t.Charges c.args.text.now c.in_ok-inner.inner.now c.in_err-amount.field-0.0 c.in_ok-inner.ensures.found c.in_err-amount.ensures.first)
