use Rattle.std.proofs.Common.{sym, ◌∙◌}
use Rattle.clause_words.proofs.Splitting.{empty_word, no_value, one_value, is_none, is_some}
use Rattle.clause_text.proofs.line_words.word_as.Goals as goal

pub returns-then-is_empty-clause-exact : goal.returns-then-is_empty-clause-exact
returns-then-is_empty-clause-exact g c =
    empty_word g.W.Word.reading c.args.text.now c.split_word.result.0.now c.split_word.result.1.now c.split_word.ensures.parts c.split_word.ensures.stops (is_none c.split_word.result.0.now (sym c.is_empty.ensures ∙ c.if-is_empty.true))

pub returns-in-Some-clause-exact : goal.returns-in-Some-clause-exact
returns-in-Some-clause-exact g c =
    one_value g.W.Word.reading c.args.text.now c.split_word.result.0.now c.split_word.result.1.now c.in-Some.value c.split_word.ensures.parts c.split_word.ensures.plain
    (is_some c.split_word.result.0.now (sym c.is_empty.ensures ∙ c.if-is_empty.false)) (sym c.in_ok-value.ensures ∙ c.in-Some.is)

pub returns-in-None-clause-exact : goal.returns-in-None-clause-exact
returns-in-None-clause-exact g c =
    no_value g.W.Word.reading c.args.text.now c.split_word.result.0.now c.split_word.result.1.now c.split_word.ensures.parts c.split_word.ensures.plain
    (is_some c.split_word.result.0.now (sym c.is_empty.ensures ∙ c.if-is_empty.false)) (sym c.in_ok-value.ensures ∙ c.in-None.is)
