use Rattle.std.specs.Prelude.{codes}
use Rattle.std.proofs.lemmas.Result.{err_from_is_err_and}
use Rattle.clause_words.specs.Tokens.{tokens}
use Rattle.clause_words.specs.Numbers.{index_of, integer_of}
use Rattle.clause_words.specs.Reading.{fields, word_as}
use Rattle.clause_text.specs.HeadWords.{charge_of, format_word, is_label}
use Rattle.clause_text.specs.Literals.{literal_of}
use Rattle.clause_text.proofs.HeadSteps.{both_done, both_first, both_second, one_done, one_label_fails, one_field_fails, one_end_fails, word_field, blank_field, wrong_field}
use Rattle.clause_text.proofs.head.values.Goals as goal

pub returns-in_err-inner : goal.returns-in_err-inner
returns-in_err-inner c =
    let p = err_from_is_err_and c.from_residual.result c.from_residual.ensures.1 in
    rw (p.1, p.2) (both_first (word_as (is_label (codes "values"))) (fields integer_of) (tokens c.args.text.now) c.in_err-inner.field-0.0 c.in_err-inner.ensures)
