use Rattle.std.proofs.Common.{arith}
use Rattle.proof_tokens.specs.declared.tokens.Token.TheVariants as t
use Rattle.proof_tokens.specs.Lines.{IsPosition, numbered_text, parts_text}
use Rattle.proof_tokens.specs.Reading.{RefusesProof}
use Rattle.proof_tokens.proofs.Refusals.{fails, no_word, refused_behind}
use Rattle.proof_tokens.proofs.part_lines.parts.Goals as goal

pub returns-in_err-inner-clause-first : goal.returns-in_err-inner-clause-first
returns-in_err-inner-clause-first c =
    fails c.in_err-inner.field-0.0 c.from_residual.result (RefusesProof IsPosition parts_text c.args.text.now) c.from_residual.ensures.1
    (no_word IsPosition numbered_text t.Parts 0 c.args.text.now c.in_err-inner.field-0.0 (omega arith, omega arith) c.in_err-inner.ensures.lacks)

pub returns-in_err-count-clause-first : goal.returns-in_err-count-clause-first
returns-in_err-count-clause-first c =
    fails c.in_err-count.field-0.0 c.from_residual-in_err-count.result (RefusesProof IsPosition parts_text c.args.text.now) c.from_residual-in_err-count.ensures.1
    (refused_behind IsPosition numbered_text t.Parts c.args.text.now c.in_ok-inner.inner.now c.in_err-count.field-0.0 c.in_ok-inner.ensures.found c.in_err-count.ensures.first)
