use Rattle.std.proofs.lemmas.Result.{err_from_is_err_and}
use Rattle.clause_text.specs.declared.line_word.LineWord.TheVariants as w
use Rattle.clause_text.specs.Shapes.{number, integer, literal, term, nothing, one, many}
use Rattle.clause_text.proofs.Steps.{field_fails, step_done, step_fails, end_done, end_fails, line_done, line_fails}
use Rattle.clause_words.specs.Tokens.{tokens}
use Rattle.clause_text.proofs.lines.split.Goals as goal

pub returns-in_err-above : goal.returns-in_err-above
returns-in_err-above c =
    let p = err_from_is_err_and c.from_residual-in_err-above.result c.from_residual-in_err-above.ensures.1 in
    rw (p.1, p.2) (line_fails w.Split (tokens c.args.text.now) c.in_err-above.field-0.0 (step_fails number (one literal (one literal nothing)) (tokens c.args.text.now) (tokens c.in_ok-variable.rest.now) c.in_ok-variable.variable c.in_err-above.field-0.0 c.in_ok-variable.ensures (field_fails literal (one literal nothing) (tokens c.in_ok-variable.rest.now) c.in_err-above.field-0.0 c.in_err-above.ensures)))

pub returns-in_err-below : goal.returns-in_err-below
returns-in_err-below c =
    let p = err_from_is_err_and c.from_residual-in_err-below.result c.from_residual-in_err-below.ensures.1 in
    rw (p.1, p.2) (line_fails w.Split (tokens c.args.text.now) c.in_err-below.field-0.0 (step_fails number (one literal (one literal nothing)) (tokens c.args.text.now) (tokens c.in_ok-variable.rest.now) c.in_ok-variable.variable c.in_err-below.field-0.0 c.in_ok-variable.ensures (step_fails literal (one literal nothing) (tokens c.in_ok-variable.rest.now) (tokens c.in_ok-above.rest.now) c.in_ok-above.above c.in_err-below.field-0.0 c.in_ok-above.ensures (field_fails literal nothing (tokens c.in_ok-above.rest.now) c.in_err-below.field-0.0 c.in_err-below.ensures))))

pub returns-in_err-rest : goal.returns-in_err-rest
returns-in_err-rest c =
    let p = err_from_is_err_and c.from_residual-in_err-rest.result c.from_residual-in_err-rest.ensures.1 in
    rw (p.1, p.2) (line_fails w.Split (tokens c.args.text.now) c.in_err-rest.field-0.0 (step_fails number (one literal (one literal nothing)) (tokens c.args.text.now) (tokens c.in_ok-variable.rest.now) c.in_ok-variable.variable c.in_err-rest.field-0.0 c.in_ok-variable.ensures (step_fails literal (one literal nothing) (tokens c.in_ok-variable.rest.now) (tokens c.in_ok-above.rest.now) c.in_ok-above.above c.in_err-rest.field-0.0 c.in_ok-above.ensures (step_fails literal nothing (tokens c.in_ok-above.rest.now) (tokens c.in_ok-below.rest.now) c.in_ok-below.below c.in_err-rest.field-0.0 c.in_ok-below.ensures (end_fails (tokens c.in_ok-below.rest.now) c.in_err-rest.field-0.0 c.in_err-rest.ensures.exact)))))

pub returns : goal.returns
returns c = line_done w.Split (tokens c.args.text.now) (tokens c.in_ok-rest.rest.now) (c.in_ok-variable.variable, (c.in_ok-above.above, (c.in_ok-below.below, tt))) (step_done number (one literal (one literal nothing)) (tokens c.args.text.now) (tokens c.in_ok-variable.rest.now) (tokens c.in_ok-rest.rest.now) c.in_ok-variable.variable (c.in_ok-above.above, (c.in_ok-below.below, tt)) c.in_ok-variable.ensures (step_done literal (one literal nothing) (tokens c.in_ok-variable.rest.now) (tokens c.in_ok-above.rest.now) (tokens c.in_ok-rest.rest.now) c.in_ok-above.above (c.in_ok-below.below, tt) c.in_ok-above.ensures (step_done literal nothing (tokens c.in_ok-above.rest.now) (tokens c.in_ok-below.rest.now) (tokens c.in_ok-rest.rest.now) c.in_ok-below.below tt c.in_ok-below.ensures (end_done (tokens c.in_ok-below.rest.now) (tokens c.in_ok-rest.rest.now) c.in_ok-rest.ensures.exact))))
