use Rattle.proof_tokens.specs.Reading.{RefusesProof}
use Rattle.proof_tokens.proofs.Refusals.{fails}
use Rattle.proof_grammar.specs.declared.rows.RowWord.TheVariants as u
use Rattle.proof_grammar.specs.Rows.{IsRow, row_line}
use Rattle.proof_grammar.proofs.RowLines.{no_row, one_refused, beta_refused, close_refused, word_cut}
use Rattle.proof_grammar.proofs.rows.row.Goals as goal

pub returns-in_err-word-clause-first : goal.returns-in_err-word-clause-first
returns-in_err-word-clause-first c =
    fails c.in_err-word.field-0.0 c.from_residual.result (RefusesProof IsRow row_line c.args.text.now) c.from_residual.ensures.1 (no_row c.args.text.now c.in_err-word.field-0.0 c.in_err-word.ensures.lacks)

pub returns-in_err-place-in-Beta-clause-first : goal.returns-in_err-place-in-Beta-clause-first
returns-in_err-place-in-Beta-clause-first c =
    fails c.in_err-place-in-Beta.field-0.0 c.from_residual-in_err-place-in-Beta.result (RefusesProof IsRow row_line c.args.text.now) c.from_residual-in_err-place-in-Beta.ensures.1
    (beta_refused c.args.text.now c.in_ok-word.inner.now c.in_err-place-in-Beta.field-0.0 (word_cut c.in_ok-word.word u.Beta c.args.text.now c.in_ok-word.inner.now c.in-Beta.is c.in_ok-word.ensures.found)
    c.in_err-place-in-Beta.ensures.first)

pub returns-in_err-rest-in-Close-clause-first : goal.returns-in_err-rest-in-Close-clause-first
returns-in_err-rest-in-Close-clause-first c =
    fails c.in_err-rest-in-Close.field-0.0 c.from_residual-in_err-rest-in-Close.result (RefusesProof IsRow row_line c.args.text.now) c.from_residual-in_err-rest-in-Close.ensures.1
    (close_refused c.args.text.now c.in_ok-word.inner.now c.in_err-rest-in-Close.field-0.0 (word_cut c.in_ok-word.word u.Close c.args.text.now c.in_ok-word.inner.now c.in-Close.is c.in_ok-word.ensures.found)
    c.in_err-rest-in-Close.ensures.lacks)

pub returns-in_err-place-in-One-clause-first : goal.returns-in_err-place-in-One-clause-first
returns-in_err-place-in-One-clause-first c =
    fails c.in_err-place-in-One.field-0.0 c.from_residual-in_err-place-in-One.result (RefusesProof IsRow row_line c.args.text.now) c.from_residual-in_err-place-in-One.ensures.1
    (one_refused c.in-One.one c.args.text.now c.in_ok-word.inner.now c.in_err-place-in-One.field-0.0 (word_cut c.in_ok-word.word (u.One c.in-One.one) c.args.text.now c.in_ok-word.inner.now c.in-One.is c.in_ok-word.ensures.found)
    c.in_err-place-in-One.ensures.first)
