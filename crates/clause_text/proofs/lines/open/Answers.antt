use Rattle.std.proofs.lemmas.Result.{err_from_is_err_and}
use Rattle.clause_text.specs.declared.line_word.LineWord.TheVariants as w
use Rattle.clause_text.specs.Shapes.{number, integer, literal, term, nothing, one, many}
use Rattle.clause_text.proofs.Steps.{field_fails, step_done, step_fails, end_done, end_fails, line_done, line_fails}
use Rattle.clause_words.specs.Tokens.{tokens}
use Rattle.clause_text.proofs.lines.open.Goals as goal

pub returns-in_err-members : goal.returns-in_err-members
returns-in_err-members c =
    let p = err_from_is_err_and c.from_residual-in_err-members.result c.from_residual-in_err-members.ensures.1 in
    rw (p.1, p.2) (line_fails w.Open (tokens c.args.text.now) c.in_err-members.field-0.0 (step_fails number (many literal) (tokens c.args.text.now) (tokens c.in_ok-variable.rest.now) c.in_ok-variable.variable c.in_err-members.field-0.0 c.in_ok-variable.ensures c.in_err-members.ensures))

pub returns : goal.returns
returns c = line_done w.Open (tokens c.args.text.now) (tokens c.in_ok-members.rest.now) (c.in_ok-variable.variable, c.in_ok-members.members) (step_done number (many literal) (tokens c.args.text.now) (tokens c.in_ok-variable.rest.now) (tokens c.in_ok-members.rest.now) c.in_ok-variable.variable c.in_ok-members.members c.in_ok-variable.ensures c.in_ok-members.ensures)
