use Rattle.std.proofs.lemmas.Result.{err_from_is_err_and}
use Rattle.clause_text.specs.declared.line_word.LineWord.TheVariants as w
use Rattle.clause_text.specs.Shapes.{number, literal}
use Rattle.clause_text.proofs.Steps.{by_done, by_fails, line_done, line_fails}
use Rattle.clause_words.specs.Tokens.{tokens}
use Rattle.clause_text.proofs.lines.resolve.Goals as goal

pub returns-in_err-hints : goal.returns-in_err-hints
returns-in_err-hints c =
    let p = err_from_is_err_and c.from_residual-in_err-hints.result c.from_residual-in_err-hints.ensures.1 in
    rw (p.1, p.2) (line_fails w.Resolve (tokens c.args.text.now) c.in_err-hints.field-0.0 (by_fails literal number (tokens c.args.text.now) (tokens c.in_ok-literals.rest.now) c.in_ok-literals.literals c.in_err-hints.field-0.0 c.in_ok-literals.ensures c.in_err-hints.ensures))

pub returns : goal.returns
returns c = line_done w.Resolve (tokens c.args.text.now) (tokens c.in_ok-hints.rest.now) (c.in_ok-literals.literals, c.in_ok-hints.hints) (by_done literal number (tokens c.args.text.now) (tokens c.in_ok-literals.rest.now) (tokens c.in_ok-hints.rest.now) c.in_ok-literals.literals c.in_ok-hints.hints c.in_ok-literals.ensures c.in_ok-hints.ensures)
