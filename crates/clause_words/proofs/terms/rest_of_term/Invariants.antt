use Rattle.std.proofs.Common.{length}
use Rattle.clause_words.specs.Rising.{HasRisingNames}
use Rattle.clause_words.specs.Terms.{nothing, parts, sum_of}
use Rattle.clause_words.proofs.Summing.{Goes}
use Rattle.clause_words.proofs.terms.rest_of_term.Given as goal

abbrev pub invariant-parts : goal.invariant-parts
invariant-parts l = record {
  same : Goes l.sum l.minus l.rest (sum_of nothing (parts l.first l.word));
  rising : HasRisingNames l.sum;
}

abbrev pub decreases-parts : goal.decreases-parts
decreases-parts l = length l.rest
