use Rattle.std.proofs.Common.{sym, ap, ◌∙◌, ◌≡◌}
use Rattle.std.proofs.lemmas.Result.{err_from_is_err_and}
use Rattle.clause_words.specs.Tokens.{tokens}
use Rattle.clause_words.specs.Reading.{done, fields, joint}
use Rattle.clause_words.proofs.Lists.{loop_bad, loop_end, loop_more, loop_wrong}
use Rattle.clause_text.proofs.line_words.fields.Goals as goal

pub returns-in_err-more : goal.returns-in_err-more
returns-in_err-more g c =
    let p = err_from_is_err_and c.from_residual.result c.from_residual.ensures.1 in
    rw (p.1, p.2) (loop_bad g.W.Word.reading c.words.found (tokens c.words.rest.now) c.in_err-more.field-0.0 (fields g.W.Word.reading (tokens c.args.text.now)) c.in_err-more.ensures.exact c.words.invariant)

pub returns-then-not-more : goal.returns-then-not-more
returns-then-not-more g c =
    loop_end g.W.Word.reading c.words.found (tokens c.words.rest.now) (tokens c.in_ok-more.inner.now) (fields g.W.Word.reading (tokens c.args.text.now))
    (c.in_ok-more.ensures.exact ∙ ap (λ b. done b (tokens c.in_ok-more.inner.now)) c.if-not-more.true) c.words.invariant

pub returns-in_err-value : goal.returns-in_err-value
returns-in_err-value g c =
    let p = err_from_is_err_and c.from_residual-in_err-value.result c.from_residual-in_err-value.ensures.1 in
    rw (p.1, p.2) (loop_wrong g.W.Word.reading c.words.found (tokens c.words.rest.now) (tokens c.in_ok-more.inner.now) c.in_err-value.field-0.0 (fields g.W.Word.reading (tokens c.args.text.now))
    (c.in_ok-more.ensures.exact ∙ ap (λ b. done b (tokens c.in_ok-more.inner.now)) c.if-not-more.false) c.in_err-value.ensures.exact c.words.invariant)

pub words-preserved : goal.words-preserved
words-preserved g c =
    rw c.in_ok-push.ensures.ok
    (loop_more g.W.Word.reading c.words.found (tokens c.words.rest.now) (tokens c.in_ok-more.inner.now) (tokens c.in_ok-value.behind.now) c.in_ok-value.value (fields g.W.Word.reading (tokens c.args.text.now))
    (c.in_ok-more.ensures.exact ∙ ap (λ b. done b (tokens c.in_ok-more.inner.now)) c.if-not-more.false) c.in_ok-value.ensures.exact c.words.invariant)
