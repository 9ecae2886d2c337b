use Rattle.std.proofs.Common.{rules, to_z-of_z}
use mir.Syntax.{w128}
use mir.Val.{SFits}
use Rattle.std.proofs.lemmas.Result.{err_from_is_err_and}
use Rattle.clause_text.specs.declared.line_word.LineWord.TheVariants as w
use Rattle.clause_text.specs.Shapes.{number, integer, literal, term, nothing, one, many}
use Rattle.clause_text.proofs.Steps.{field_fails, step_done, step_fails, end_done, end_fails, line_done, line_fails}
use Rattle.clause_words.specs.Tokens.{tokens}
use Rattle.clause_text.proofs.lines.divide.Goals as goal

pub returns-in_err-term : goal.returns-in_err-term
returns-in_err-term c =
    let p = err_from_is_err_and c.from_residual-in_err-term.result c.from_residual-in_err-term.ensures.1 in
    rw (p.1, p.2) (line_fails w.Divide (tokens c.args.text.now) c.in_err-term.field-0.0 (step_fails integer (one term (one literal (one literal nothing))) (tokens c.args.text.now) (tokens c.in_ok-divisor.rest.now) c.in_ok-divisor.divisor c.in_err-term.field-0.0 c.in_ok-divisor.ensures (field_fails term (one literal (one literal nothing)) (tokens c.in_ok-divisor.rest.now) c.in_err-term.field-0.0 c.in_err-term.ensures)))

pub returns-in_err-least : goal.returns-in_err-least
returns-in_err-least c =
    let p = err_from_is_err_and c.from_residual-in_err-least.result c.from_residual-in_err-least.ensures.1 in
    rw (p.1, p.2) (line_fails w.Divide (tokens c.args.text.now) c.in_err-least.field-0.0 (step_fails integer (one term (one literal (one literal nothing))) (tokens c.args.text.now) (tokens c.in_ok-divisor.rest.now) c.in_ok-divisor.divisor c.in_err-least.field-0.0 c.in_ok-divisor.ensures (step_fails term (one literal (one literal nothing)) (tokens c.in_ok-divisor.rest.now) (tokens c.in_ok-term.rest.now) c.in_ok-term.term c.in_err-least.field-0.0 c.in_ok-term.ensures (field_fails literal (one literal nothing) (tokens c.in_ok-term.rest.now) c.in_err-least.field-0.0 c.in_err-least.ensures))))

pub returns-in_err-most : goal.returns-in_err-most
returns-in_err-most c =
    let p = err_from_is_err_and c.from_residual-in_err-most.result c.from_residual-in_err-most.ensures.1 in
    rw (p.1, p.2) (line_fails w.Divide (tokens c.args.text.now) c.in_err-most.field-0.0 (step_fails integer (one term (one literal (one literal nothing))) (tokens c.args.text.now) (tokens c.in_ok-divisor.rest.now) c.in_ok-divisor.divisor c.in_err-most.field-0.0 c.in_ok-divisor.ensures (step_fails term (one literal (one literal nothing)) (tokens c.in_ok-divisor.rest.now) (tokens c.in_ok-term.rest.now) c.in_ok-term.term c.in_err-most.field-0.0 c.in_ok-term.ensures (step_fails literal (one literal nothing) (tokens c.in_ok-term.rest.now) (tokens c.in_ok-least.rest.now) c.in_ok-least.least c.in_err-most.field-0.0 c.in_ok-least.ensures (field_fails literal nothing (tokens c.in_ok-least.rest.now) c.in_err-most.field-0.0 c.in_err-most.ensures)))))

pub returns-in_err-rest : goal.returns-in_err-rest
returns-in_err-rest c =
    let p = err_from_is_err_and c.from_residual-in_err-rest.result c.from_residual-in_err-rest.ensures.1 in
    rw (p.1, p.2) (line_fails w.Divide (tokens c.args.text.now) c.in_err-rest.field-0.0 (step_fails integer (one term (one literal (one literal nothing))) (tokens c.args.text.now) (tokens c.in_ok-divisor.rest.now) c.in_ok-divisor.divisor c.in_err-rest.field-0.0 c.in_ok-divisor.ensures (step_fails term (one literal (one literal nothing)) (tokens c.in_ok-divisor.rest.now) (tokens c.in_ok-term.rest.now) c.in_ok-term.term c.in_err-rest.field-0.0 c.in_ok-term.ensures (step_fails literal (one literal nothing) (tokens c.in_ok-term.rest.now) (tokens c.in_ok-least.rest.now) c.in_ok-least.least c.in_err-rest.field-0.0 c.in_ok-least.ensures (step_fails literal nothing (tokens c.in_ok-least.rest.now) (tokens c.in_ok-most.rest.now) c.in_ok-most.most c.in_err-rest.field-0.0 c.in_ok-most.ensures (end_fails (tokens c.in_ok-most.rest.now) c.in_err-rest.field-0.0 c.in_err-rest.ensures.exact))))))

pub returns : goal.returns
returns c =
    let v : SFits w128 c.in_ok-divisor.divisor = search rules in
    simp to_z-of_z (line_done w.Divide (tokens c.args.text.now) (tokens c.in_ok-rest.rest.now) (c.in_ok-divisor.divisor, (c.in_ok-term.term, (c.in_ok-least.least, (c.in_ok-most.most, tt)))) (step_done integer (one term (one literal (one literal nothing))) (tokens c.args.text.now) (tokens c.in_ok-divisor.rest.now) (tokens c.in_ok-rest.rest.now) c.in_ok-divisor.divisor (c.in_ok-term.term, (c.in_ok-least.least, (c.in_ok-most.most, tt))) c.in_ok-divisor.ensures (step_done term (one literal (one literal nothing)) (tokens c.in_ok-divisor.rest.now) (tokens c.in_ok-term.rest.now) (tokens c.in_ok-rest.rest.now) c.in_ok-term.term (c.in_ok-least.least, (c.in_ok-most.most, tt)) c.in_ok-term.ensures (step_done literal (one literal nothing) (tokens c.in_ok-term.rest.now) (tokens c.in_ok-least.rest.now) (tokens c.in_ok-rest.rest.now) c.in_ok-least.least (c.in_ok-most.most, tt) c.in_ok-least.ensures (step_done literal nothing (tokens c.in_ok-least.rest.now) (tokens c.in_ok-most.rest.now) (tokens c.in_ok-rest.rest.now) c.in_ok-most.most tt c.in_ok-most.ensures (end_done (tokens c.in_ok-most.rest.now) (tokens c.in_ok-rest.rest.now) c.in_ok-rest.ensures.exact))))))
