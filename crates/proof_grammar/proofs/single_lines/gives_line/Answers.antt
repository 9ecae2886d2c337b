use Rattle.proof_tokens.specs.Reading.{RefusesProof}
use Rattle.proof_tokens.proofs.Refusals.{fails}
use Rattle.proof_grammar.specs.declared.lines.Owed.TheVariants as o
use Rattle.proof_grammar.specs.Lines.{line_text}
use Rattle.proof_grammar.specs.Owed.{Any, Pays}
use Rattle.proof_grammar.proofs.LineKinds.{gives_owed}
use Rattle.proof_grammar.proofs.single_lines.gives_line.Goals as goal

pub returns-in_err-clauses-clause-first : goal.returns-in_err-clauses-clause-first
returns-in_err-clauses-clause-first c =
    fails c.in_err-clauses.field-0.0 c.from_residual.result (RefusesProof (Pays Any o.Gives) line_text c.args.text.now) c.from_residual.ensures.1 (gives_owed c.args.text.now c.in_err-clauses.field-0.0 c.in_err-clauses.ensures.first)
