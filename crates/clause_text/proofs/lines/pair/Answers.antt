use Rattle.std.proofs.lemmas.Result.{err_from_is_err_and}
use Rattle.clause_text.specs.declared.line_word.LineWord.TheVariants as w
use Rattle.clause_text.specs.Shapes.{number, integer, literal, term, nothing, one, many}
use Rattle.clause_text.proofs.Steps.{field_fails, step_done, step_fails, end_done, end_fails, line_done, line_fails}
use Rattle.clause_words.specs.Tokens.{tokens}
use Rattle.clause_text.proofs.lines.pair.Goals as goal

pub returns-in_err-second : goal.returns-in_err-second
returns-in_err-second c =
    let p = err_from_is_err_and c.from_residual-in_err-second.result c.from_residual-in_err-second.ensures.1 in
    rw (p.1, p.2) (line_fails w.Pair (tokens c.args.text.now) c.in_err-second.field-0.0 (step_fails number (one number (one literal (many literal))) (tokens c.args.text.now) (tokens c.in_ok-first.rest.now) c.in_ok-first.first c.in_err-second.field-0.0 c.in_ok-first.ensures (field_fails number (one literal (many literal)) (tokens c.in_ok-first.rest.now) c.in_err-second.field-0.0 c.in_err-second.ensures)))

pub returns-in_err-made : goal.returns-in_err-made
returns-in_err-made c =
    let p = err_from_is_err_and c.from_residual-in_err-made.result c.from_residual-in_err-made.ensures.1 in
    rw (p.1, p.2) (line_fails w.Pair (tokens c.args.text.now) c.in_err-made.field-0.0 (step_fails number (one number (one literal (many literal))) (tokens c.args.text.now) (tokens c.in_ok-first.rest.now) c.in_ok-first.first c.in_err-made.field-0.0 c.in_ok-first.ensures (step_fails number (one literal (many literal)) (tokens c.in_ok-first.rest.now) (tokens c.in_ok-second.rest.now) c.in_ok-second.second c.in_err-made.field-0.0 c.in_ok-second.ensures (field_fails literal (many literal) (tokens c.in_ok-second.rest.now) c.in_err-made.field-0.0 c.in_err-made.ensures))))

pub returns-in_err-equations : goal.returns-in_err-equations
returns-in_err-equations c =
    let p = err_from_is_err_and c.from_residual-in_err-equations.result c.from_residual-in_err-equations.ensures.1 in
    rw (p.1, p.2) (line_fails w.Pair (tokens c.args.text.now) c.in_err-equations.field-0.0 (step_fails number (one number (one literal (many literal))) (tokens c.args.text.now) (tokens c.in_ok-first.rest.now) c.in_ok-first.first c.in_err-equations.field-0.0 c.in_ok-first.ensures (step_fails number (one literal (many literal)) (tokens c.in_ok-first.rest.now) (tokens c.in_ok-second.rest.now) c.in_ok-second.second c.in_err-equations.field-0.0 c.in_ok-second.ensures (step_fails literal (many literal) (tokens c.in_ok-second.rest.now) (tokens c.in_ok-made.rest.now) c.in_ok-made.made c.in_err-equations.field-0.0 c.in_ok-made.ensures c.in_err-equations.ensures))))

pub returns : goal.returns
returns c = line_done w.Pair (tokens c.args.text.now) (tokens c.in_ok-equations.rest.now) (c.in_ok-first.first, (c.in_ok-second.second, (c.in_ok-made.made, c.in_ok-equations.equations))) (step_done number (one number (one literal (many literal))) (tokens c.args.text.now) (tokens c.in_ok-first.rest.now) (tokens c.in_ok-equations.rest.now) c.in_ok-first.first (c.in_ok-second.second, (c.in_ok-made.made, c.in_ok-equations.equations)) c.in_ok-first.ensures (step_done number (one literal (many literal)) (tokens c.in_ok-first.rest.now) (tokens c.in_ok-second.rest.now) (tokens c.in_ok-equations.rest.now) c.in_ok-second.second (c.in_ok-made.made, c.in_ok-equations.equations) c.in_ok-second.ensures (step_done literal (many literal) (tokens c.in_ok-second.rest.now) (tokens c.in_ok-made.rest.now) (tokens c.in_ok-equations.rest.now) c.in_ok-made.made c.in_ok-equations.equations c.in_ok-made.ensures c.in_ok-equations.ensures)))
