use Rattle.std.proofs.Common.{[], ◌∷◌, length}
use Rattle.base_budget.specs.declared.log.Entry.TheVariants as step
use Rattle.proof_tokens.specs.declared.tokens.Token.TheVariants as t
use Rattle.proof_tokens.specs.declared.reading.Refusal.TheVariants as e
use Rattle.proof_tokens.specs.Lines.{entries_text, IsPart, part_text}
use Rattle.proof_tokens.specs.Reading.{RefusesProof}
use Rattle.proof_tokens.proofs.Refusals.{fails, no_word, refused_behind}
use Rattle.proof_tokens.proofs.PartLines.{entries_part, no_entry}
use Rattle.proof_tokens.proofs.part_lines.part.Goals as goal

pub returns-in_err-inner-clause-first : goal.returns-in_err-inner-clause-first
returns-in_err-inner-clause-first c =
    fails c.in_err-inner.field-0.0 c.from_residual.result (RefusesProof IsPart part_text c.args.text.now) c.from_residual.ensures.1
    (no_word IsPart entries_text t.Part (step.Exact ∷ []) c.args.text.now c.in_err-inner.field-0.0 tt c.in_err-inner.ensures.lacks)

pub returns-in_err-entries-clause-first : goal.returns-in_err-entries-clause-first
returns-in_err-entries-clause-first c =
    fails c.in_err-entries.field-0.0 c.from_residual-in_err-entries.result (RefusesProof IsPart part_text c.args.text.now) c.from_residual-in_err-entries.ensures.1
    (refused_behind IsPart entries_text t.Part c.args.text.now c.in_ok-inner.inner.now c.in_err-entries.field-0.0 c.in_ok-inner.ensures.found
    (entries_part c.in_ok-inner.inner.now c.in_err-entries.field-0.0 c.in_err-entries.ensures.first))

pub returns-then-is_empty-clause-first : goal.returns-then-is_empty-clause-first
returns-then-is_empty-clause-first c =
    refused_behind IsPart entries_text t.Part c.args.text.now c.in_ok-inner.inner.now (e.Syntax (length c.in_ok-inner.inner.now)) c.in_ok-inner.ensures.found
    (no_entry c.in_ok-entries.entries c.in_ok-inner.inner.now c.in_ok-entries.rest.now (c.is_empty.ensures.0 c.if-is_empty.true) c.in_ok-entries.ensures.found)
