use Rattle.std.specs.Prelude.{codes}
use Rattle.std.proofs.lemmas.Result.{err_from_is_err_and}
use Rattle.clause_words.specs.Tokens.{tokens}
use Rattle.clause_words.specs.Numbers.{index_of, integer_of}
use Rattle.clause_words.specs.Reading.{fields, word_as}
use Rattle.clause_text.specs.HeadWords.{charge_of, format_word, is_label}
use Rattle.clause_text.specs.Literals.{literal_of}
use Rattle.clause_text.proofs.HeadSteps.{both_done, both_first, both_second, one_done, one_label_fails, one_field_fails, one_end_fails, word_field, blank_field, wrong_field}
use Rattle.clause_text.proofs.head.charges.Goals as goal

pub returns-in_err-inner : goal.returns-in_err-inner
returns-in_err-inner c =
    let p = err_from_is_err_and c.from_residual.result c.from_residual.ensures.1 in
    rw (p.1, p.2) (one_label_fails (codes "charges") charge_of (tokens c.args.text.now) c.in_err-inner.field-0.0 c.in_err-inner.ensures)

pub returns-in_err-charge : goal.returns-in_err-charge
returns-in_err-charge c =
    let p = err_from_is_err_and c.from_residual-in_err-charge.result c.from_residual-in_err-charge.ensures.1 in
    rw (p.1, p.2) (one_field_fails (codes "charges") charge_of (tokens c.args.text.now) (tokens c.in_ok-inner.inner.now) c.in_err-charge.field-0.0 c.in_ok-inner.ensures c.in_err-charge.ensures)

pub returns-in_err-rest : goal.returns-in_err-rest
returns-in_err-rest c =
    let p = err_from_is_err_and c.from_residual-in_err-rest.result c.from_residual-in_err-rest.ensures.1 in
    rw (p.1, p.2) (one_end_fails (codes "charges") charge_of (tokens c.args.text.now) (tokens c.in_ok-inner.inner.now) (tokens c.in_ok-charge.rest.now) c.in_ok-charge.charge c.in_err-rest.field-0.0 c.in_ok-inner.ensures c.in_ok-charge.ensures c.in_err-rest.ensures.exact)

pub returns : goal.returns
returns c = one_done (codes "charges") charge_of (tokens c.args.text.now) (tokens c.in_ok-inner.inner.now) (tokens c.in_ok-charge.rest.now) (tokens c.in_ok-rest.rest.now) c.in_ok-charge.charge c.in_ok-inner.ensures c.in_ok-charge.ensures c.in_ok-rest.ensures.exact
