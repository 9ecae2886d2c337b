use Rattle.std.proofs.Common.{◌≡◌, length}
use Rattle.clause_words.specs.Tokens.{tokens}
use Rattle.clause_words.specs.Reading.{fields}
use Rattle.clause_words.proofs.Lists.{with_front}
use Rattle.clause_text.proofs.line_words.fields.Given as goal

abbrev pub invariant-words : goal.invariant-words
invariant-words g l = with_front l.found (fields g.W.Word.reading (tokens l.rest)) ≡ fields g.W.Word.reading (tokens l.text)

abbrev pub decreases-words : goal.decreases-words
decreases-words g l = length l.rest
