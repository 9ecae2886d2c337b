use Rattle.clause_words.proofs.Spelled.{index_spelling, integer_spelling}
use Rattle.clause_words.proofs.SpelledTerms.{term_spelling}
use Rattle.clause_words.proofs.laws.spelling_law.Goals as goal

pub returns-clause-number : goal.returns-clause-number
returns-clause-number c = index_spelling

pub returns-clause-integer : goal.returns-clause-integer
returns-clause-integer c = integer_spelling

pub returns-clause-term : goal.returns-clause-term
returns-clause-term c = term_spelling
