use Rattle.proof_tokens.specs.Reading.{RefusesProof}
use Rattle.proof_tokens.proofs.Refusals.{fails}
use Rattle.proof_grammar.specs.declared.lines.Owed.TheVariants as o
use Rattle.proof_grammar.specs.Lines.{line_text}
use Rattle.proof_grammar.specs.Owed.{Any, Pays}
use Rattle.proof_grammar.proofs.LineKinds.{charges_owed}
use Rattle.proof_grammar.proofs.single_lines.charges_line.Goals as goal

pub returns-in_err-amount-clause-first : goal.returns-in_err-amount-clause-first
returns-in_err-amount-clause-first c = λ parts.
    fails c.in_err-amount.field-0.0 c.from_residual.result (RefusesProof (Pays Any (o.Charges parts)) line_text c.args.text.now) c.from_residual.ensures.1 (charges_owed parts c.args.text.now c.in_err-amount.field-0.0 c.in_err-amount.ensures.first)
