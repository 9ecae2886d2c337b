use Rattle.std.proofs.Common.{arith}
use Rattle.proof_tokens.specs.declared.tokens.Token.TheVariants as t
use Rattle.proof_tokens.specs.Lines.{IsFormat, head_text, numbered_text}
use Rattle.proof_tokens.specs.Reading.{RefusesProof}
use Rattle.proof_tokens.proofs.Refusals.{fails, no_word, refused_behind}
use Rattle.proof_tokens.proofs.lines.head.Goals as goal

pub returns-in_err-inner-clause-first : goal.returns-in_err-inner-clause-first
returns-in_err-inner-clause-first c =
    fails c.in_err-inner.field-0.0 c.from_residual.result (RefusesProof IsFormat head_text c.args.text.now) c.from_residual.ensures.1
    (no_word IsFormat numbered_text t.PrincessProof 1 c.args.text.now c.in_err-inner.field-0.0 (omega arith, omega arith) c.in_err-inner.ensures.lacks)

pub returns-in_err-format-clause-first : goal.returns-in_err-format-clause-first
returns-in_err-format-clause-first c =
    fails c.in_err-format.field-0.0 c.from_residual-in_err-format.result (RefusesProof IsFormat head_text c.args.text.now) c.from_residual-in_err-format.ensures.1
    (refused_behind IsFormat numbered_text t.PrincessProof c.args.text.now c.in_ok-inner.inner.now c.in_err-format.field-0.0 c.in_ok-inner.ensures.found c.in_err-format.ensures.first)
