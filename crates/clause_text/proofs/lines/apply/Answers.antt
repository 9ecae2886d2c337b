use Rattle.std.proofs.lemmas.Result.{err_from_is_err_and}
use Rattle.clause_text.specs.declared.line_word.LineWord.TheVariants as w
use Rattle.clause_text.specs.Shapes.{number, integer, literal, term, nothing, one, many}
use Rattle.clause_text.proofs.Steps.{field_fails, step_done, step_fails, end_done, end_fails, line_done, line_fails}
use Rattle.clause_words.specs.Tokens.{tokens}
use Rattle.clause_text.proofs.lines.apply.Goals as goal

pub returns-in_err-terms : goal.returns-in_err-terms
returns-in_err-terms c =
    let p = err_from_is_err_and c.from_residual-in_err-terms.result c.from_residual-in_err-terms.ensures.1 in
    rw (p.1, p.2) (line_fails w.Apply (tokens c.args.text.now) c.in_err-terms.field-0.0 (step_fails number (many term) (tokens c.args.text.now) (tokens c.in_ok-function.rest.now) c.in_ok-function.function c.in_err-terms.field-0.0 c.in_ok-function.ensures c.in_err-terms.ensures))

pub returns : goal.returns
returns c = line_done w.Apply (tokens c.args.text.now) (tokens c.in_ok-terms.rest.now) (c.in_ok-function.function, c.in_ok-terms.terms) (step_done number (many term) (tokens c.args.text.now) (tokens c.in_ok-function.rest.now) (tokens c.in_ok-terms.rest.now) c.in_ok-function.function c.in_ok-terms.terms c.in_ok-function.ensures c.in_ok-terms.ensures)
