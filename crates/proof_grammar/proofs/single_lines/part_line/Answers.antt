use Rattle.proof_tokens.specs.Reading.{RefusesProof}
use Rattle.proof_tokens.proofs.Refusals.{fails}
use Rattle.proof_grammar.specs.declared.lines.Owed.TheVariants as o
use Rattle.proof_grammar.specs.Lines.{line_text}
use Rattle.proof_grammar.specs.Owed.{Any, Pays}
use Rattle.proof_grammar.proofs.LineKinds.{part_owed}
use Rattle.proof_grammar.proofs.single_lines.part_line.Goals as goal

pub returns-in_err-steps-clause-first : goal.returns-in_err-steps-clause-first
returns-in_err-steps-clause-first c =
    fails c.in_err-steps.field-0.0 c.from_residual.result (RefusesProof (Pays Any o.Part) line_text c.args.text.now) c.from_residual.ensures.1 (part_owed c.args.text.now c.in_err-steps.field-0.0 c.in_err-steps.ensures.first)
