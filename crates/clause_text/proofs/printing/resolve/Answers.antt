use Rattle.std.specs.Fmt.{decimal}
use Rattle.clause_text.specs.declared.line_word.LineWord.TheVariants as w
use Rattle.clause_text.specs.Literals.{literal_text}
use Rattle.clause_text.specs.Shapes.{by}
use Rattle.clause_text.specs.Words.{word_text}
use Rattle.clause_text.proofs.Written.{by_written_ok}
use Rattle.clause_words.specs.Texts.{list_text, list_to_text}
use Rattle.clause_text.proofs.printing.resolve.Goals as goal

pub returns : goal.returns
returns c =
    by_written_ok c.numbers.result c.args.out.now.items c.word.new.out.items c.literals_by.new.out.items c.numbers.new.out.items (word_text w.Resolve) (list_to_text by literal_text c.args.clause.now) (list_text decimal c.args.hints.now)
    c.in_ok-word.ensures c.in_ok-literals_by.ensures c.numbers.ensures
