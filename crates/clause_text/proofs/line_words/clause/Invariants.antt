use Rattle.std.proofs.Common.{◌≡◌, length}
use Rattle.clause_words.specs.Tokens.{tokens}
use Rattle.clause_words.specs.Reading.{fields_to, unless}
use Rattle.clause_words.proofs.Lists.{with_front}
use Rattle.clause_text.specs.Literals.{literal_of}
use Rattle.clause_text.specs.Shapes.{by}
use Rattle.clause_text.proofs.line_words.clause.Given as goal

abbrev pub invariant-words : goal.invariant-words
invariant-words l = with_front l.found (fields_to (unless by literal_of) (tokens l.rest)) ≡ fields_to (unless by literal_of) (tokens l.text)

abbrev pub decreases-words : goal.decreases-words
decreases-words l = length l.rest
