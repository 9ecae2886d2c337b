use Rattle.std.proofs.Common.{true, false}
use Rattle.proof_tokens.specs.Reading.{RefusesProof}
use Rattle.proof_tokens.proofs.Refusals.{fails}
use Rattle.proof_grammar.specs.declared.lines.Owed.TheVariants as o
use Rattle.proof_grammar.specs.Lines.{line_text}
use Rattle.proof_grammar.specs.Owed.{Any, Pays}
use Rattle.proof_grammar.proofs.LineKinds.{end_owed, no_end_word, word_cut, solution_refused, none_refused}
use Rattle.proof_grammar.proofs.single_lines.end_line.Goals as goal

pub returns-in_err-solved-clause-first : goal.returns-in_err-solved-clause-first
returns-in_err-solved-clause-first c =
    fails c.in_err-solved.field-0.0 c.from_residual.result (RefusesProof (Pays Any (o.End c.args.parts)) line_text c.args.text.now) c.from_residual.ensures.1
    (end_owed c.args.parts c.args.text.now c.in_err-solved.field-0.0 (no_end_word c.args.parts c.args.text.now c.in_err-solved.field-0.0 c.in_err-solved.ensures.lacks))

pub returns-in_err-numbers-clause-first : goal.returns-in_err-numbers-clause-first
returns-in_err-numbers-clause-first c =
    fails c.in_err-numbers.field-0.0 c.from_residual-in_err-numbers.result (RefusesProof (Pays Any (o.End c.args.parts)) line_text c.args.text.now) c.from_residual-in_err-numbers.ensures.1
    (end_owed c.args.parts c.args.text.now c.in_err-numbers.field-0.0
    (solution_refused c.args.parts c.args.text.now c.in_ok-solved.inner.now c.in_err-numbers.field-0.0 (word_cut c.in_ok-solved.solved true c.args.text.now c.in_ok-solved.inner.now c.if-solved.true c.in_ok-solved.ensures.found) c.in_err-numbers.ensures.first))

pub returns-in_err-log-clause-first : goal.returns-in_err-log-clause-first
returns-in_err-log-clause-first c =
    fails c.in_err-log.field-0.0 c.from_residual-in_err-log.result (RefusesProof (Pays Any (o.End c.args.parts)) line_text c.args.text.now) c.from_residual-in_err-log.ensures.1
    (end_owed c.args.parts c.args.text.now c.in_err-log.field-0.0
    (none_refused c.args.parts c.args.text.now c.in_ok-solved.inner.now c.in_err-log.field-0.0 (word_cut c.in_ok-solved.solved false c.args.text.now c.in_ok-solved.inner.now c.if-solved.false c.in_ok-solved.ensures.found) c.in_err-log.ensures.first))
