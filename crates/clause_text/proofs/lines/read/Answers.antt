use Rattle.std.proofs.lemmas.Result.{err_from_is_err_and}
use Rattle.clause_text.specs.declared.line_word.LineWord.TheVariants as w
use Rattle.clause_text.specs.Shapes.{number, integer, literal, term, nothing, one, many}
use Rattle.clause_text.proofs.Steps.{field_fails, step_done, step_fails, end_done, end_fails, line_done, line_fails}
use Rattle.clause_words.specs.Tokens.{tokens}
use Rattle.clause_text.proofs.lines.read.Goals as goal

pub returns-in_err-made : goal.returns-in_err-made
returns-in_err-made c =
    let p = err_from_is_err_and c.from_residual-in_err-made.result c.from_residual-in_err-made.ensures.1 in
    rw (p.1, p.2) (line_fails w.Read (tokens c.args.text.now) c.in_err-made.field-0.0 (step_fails number (one literal (many number)) (tokens c.args.text.now) (tokens c.in_ok-variable.rest.now) c.in_ok-variable.variable c.in_err-made.field-0.0 c.in_ok-variable.ensures (field_fails literal (many number) (tokens c.in_ok-variable.rest.now) c.in_err-made.field-0.0 c.in_err-made.ensures)))

pub returns-in_err-applications : goal.returns-in_err-applications
returns-in_err-applications c =
    let p = err_from_is_err_and c.from_residual-in_err-applications.result c.from_residual-in_err-applications.ensures.1 in
    rw (p.1, p.2) (line_fails w.Read (tokens c.args.text.now) c.in_err-applications.field-0.0 (step_fails number (one literal (many number)) (tokens c.args.text.now) (tokens c.in_ok-variable.rest.now) c.in_ok-variable.variable c.in_err-applications.field-0.0 c.in_ok-variable.ensures (step_fails literal (many number) (tokens c.in_ok-variable.rest.now) (tokens c.in_ok-made.rest.now) c.in_ok-made.made c.in_err-applications.field-0.0 c.in_ok-made.ensures c.in_err-applications.ensures)))

pub returns : goal.returns
returns c = line_done w.Read (tokens c.args.text.now) (tokens c.in_ok-applications.rest.now) (c.in_ok-variable.variable, (c.in_ok-made.made, c.in_ok-applications.applications)) (step_done number (one literal (many number)) (tokens c.args.text.now) (tokens c.in_ok-variable.rest.now) (tokens c.in_ok-applications.rest.now) c.in_ok-variable.variable (c.in_ok-made.made, c.in_ok-applications.applications) c.in_ok-variable.ensures (step_done literal (many number) (tokens c.in_ok-variable.rest.now) (tokens c.in_ok-made.rest.now) (tokens c.in_ok-applications.rest.now) c.in_ok-made.made c.in_ok-applications.applications c.in_ok-made.ensures c.in_ok-applications.ensures))
