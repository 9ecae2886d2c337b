use Rattle.std.specs.Prelude.{codes}
use Rattle.std.proofs.lemmas.Result.{err_from_is_err_and}
use Rattle.clause_words.specs.Tokens.{tokens}
use Rattle.clause_words.specs.Numbers.{index_of, integer_of}
use Rattle.clause_words.specs.Reading.{fields, word_as}
use Rattle.clause_text.specs.HeadWords.{charge_of, format_word, is_label}
use Rattle.clause_text.specs.Literals.{literal_of}
use Rattle.clause_text.proofs.HeadSteps.{both_done, both_first, both_second, one_done, one_label_fails, one_field_fails, one_end_fails, word_field, blank_field, wrong_field}
use Rattle.clause_text.proofs.head.format.Goals as goal

pub returns-in_err-inner : goal.returns-in_err-inner
returns-in_err-inner c =
    let p = err_from_is_err_and c.from_residual.result c.from_residual.ensures.1 in
    rw (p.1, p.2) (one_label_fails (codes "princess-proof") (is_label format_word) (tokens c.args.text.now) c.in_err-inner.field-0.0 c.in_err-inner.ensures)

pub returns-in_err-number : goal.returns-in_err-number
returns-in_err-number c =
    let p = err_from_is_err_and c.from_residual-in_err-number.result c.from_residual-in_err-number.ensures.1 in
    rw (p.1, p.2) (one_field_fails (codes "princess-proof") (is_label format_word) (tokens c.args.text.now) (tokens c.in_ok-inner.inner.now) c.in_err-number.field-0.0 c.in_ok-inner.ensures (blank_field (is_label format_word) (tokens c.in_ok-inner.inner.now) c.in_err-number.field-0.0 c.in_err-number.ensures.exact))

pub returns-in_err-end : goal.returns-in_err-end
returns-in_err-end c =
    let p = err_from_is_err_and c.from_residual-in_err-end.result c.from_residual-in_err-end.ensures.1 in
    rw (p.1, p.2) (one_field_fails (codes "princess-proof") (is_label format_word) (tokens c.args.text.now) (tokens c.in_ok-inner.inner.now) c.in_err-end.field-0.0 c.in_ok-inner.ensures (wrong_field (is_label format_word) (tokens c.in_ok-inner.inner.now) (tokens c.in_ok-number.number.now) c.in_err-end.field-0.0 c.in_ok-number.ensures.exact c.in_err-end.ensures))

pub returns-in_err-rest : goal.returns-in_err-rest
returns-in_err-rest c =
    let p = err_from_is_err_and c.from_residual-in_err-rest.result c.from_residual-in_err-rest.ensures.1 in
    rw (p.1, p.2) (one_end_fails (codes "princess-proof") (is_label format_word) (tokens c.args.text.now) (tokens c.in_ok-inner.inner.now) (tokens c.in_ok-end.end.now) tt c.in_err-rest.field-0.0 c.in_ok-inner.ensures (word_field (is_label format_word) (tokens c.in_ok-inner.inner.now) (tokens c.in_ok-number.number.now) (tokens c.in_ok-end.end.now) tt c.in_ok-number.ensures.exact c.in_ok-end.ensures) c.in_err-rest.ensures.exact)

pub returns : goal.returns
returns c = one_done (codes "princess-proof") (is_label format_word) (tokens c.args.text.now) (tokens c.in_ok-inner.inner.now) (tokens c.in_ok-end.end.now) (tokens c.in_ok-rest.rest.now) tt c.in_ok-inner.ensures (word_field (is_label format_word) (tokens c.in_ok-inner.inner.now) (tokens c.in_ok-number.number.now) (tokens c.in_ok-end.end.now) tt c.in_ok-number.ensures.exact c.in_ok-end.ensures) c.in_ok-rest.ensures.exact
