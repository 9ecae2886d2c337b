use Rattle.std.proofs.Common.{sym, ap, ◌∙◌, ◌≡◌}
use Rattle.std.proofs.lemmas.Result.{err_from_is_err_and}
use Rattle.clause_words.specs.Tokens.{tokens}
use Rattle.clause_words.specs.Reading.{done, fields_to, unless}
use Rattle.clause_words.proofs.Unless.{to_loop_bad, to_loop_end, to_loop_more, to_loop_wrong}
use Rattle.clause_text.specs.Literals.{literal_of}
use Rattle.clause_text.specs.Shapes.{by}
use Rattle.clause_text.proofs.line_words.clause.Goals as goal

pub returns-in_err-inner : goal.returns-in_err-inner
returns-in_err-inner c =
    let p = err_from_is_err_and c.from_residual.result c.from_residual.ensures.1 in
    rw (p.1, p.2) (to_loop_bad (unless by literal_of) c.words.found (tokens c.words.rest.now) c.in_err-inner.field-0.0 (fields_to (unless by literal_of) (tokens c.args.text.now)) c.in_err-inner.ensures.exact c.words.invariant)

pub returns-in_err-word : goal.returns-in_err-word
returns-in_err-word c =
    let p = err_from_is_err_and c.from_residual-in_err-word.result c.from_residual-in_err-word.ensures.1 in
    rw (p.1, p.2) (to_loop_wrong (unless by literal_of) c.words.found (tokens c.words.rest.now) (tokens c.in_ok-inner.inner.now) c.in_err-word.field-0.0 (fields_to (unless by literal_of) (tokens c.args.text.now))
    c.in_ok-inner.ensures.exact c.in_err-word.ensures.exact c.words.invariant)

pub returns-in_default : goal.returns-in_default
returns-in_default c =
    to_loop_end (unless by literal_of) c.words.found (tokens c.words.rest.now) (tokens c.in_ok-inner.inner.now) (tokens c.in_ok-word.behind.now) (fields_to (unless by literal_of) (tokens c.args.text.now))
    c.in_ok-inner.ensures.exact (c.in_ok-word.ensures.exact ∙ ap (λ o. done o (tokens c.in_ok-word.behind.now)) c.in_default.is) c.words.invariant

pub words-preserved : goal.words-preserved
words-preserved c =
    rw c.in_ok-push.ensures.ok
    (to_loop_more (unless by literal_of) c.words.found (tokens c.words.rest.now) (tokens c.in_ok-inner.inner.now) (tokens c.in_ok-word.behind.now) c.in-Some.literal (fields_to (unless by literal_of) (tokens c.args.text.now))
    c.in_ok-inner.ensures.exact (c.in_ok-word.ensures.exact ∙ ap (λ o. done o (tokens c.in_ok-word.behind.now)) c.in-Some.is) c.words.invariant)
