use Rattle.proof_tokens.specs.Lines.{IsSaidLog, said_text}
use Rattle.proof_tokens.specs.Reading.{RefusesProof}
use Rattle.proof_tokens.proofs.Refusals.{fails}
use Rattle.proof_tokens.proofs.PartLines.{entries_said, no_end_of_use}
use Rattle.proof_tokens.proofs.part_lines.said.Goals as goal

pub returns-in_err-rest-clause-first : goal.returns-in_err-rest-clause-first
returns-in_err-rest-clause-first c =
    fails c.in_err-rest.field-0.0 c.from_residual.result (RefusesProof (IsSaidLog c.args.parts) said_text c.args.text.now) c.from_residual.ensures.1
    (no_end_of_use c.args.parts c.in-Some.part c.args.text.now c.in-Some.end.now c.in_err-rest.field-0.0 c.in-Some.ensures.0 c.in-Some.ensures.1 c.in_err-rest.ensures.lacks)

pub returns-in_err-entries-clause-first : goal.returns-in_err-entries-clause-first
returns-in_err-entries-clause-first c =
    fails c.in_err-entries.field-0.0 c.from_residual-in_err-entries.result (RefusesProof (IsSaidLog c.args.parts) said_text c.args.text.now) c.from_residual-in_err-entries.ensures.1
    (entries_said c.args.parts c.args.text.now c.in_err-entries.field-0.0 c.in_default.ensures c.in_err-entries.ensures.first)
