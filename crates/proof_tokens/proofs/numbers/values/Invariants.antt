use Rattle.std.proofs.Common.{length}
use Rattle.proof_tokens.specs.Lines.{AreValues, value_text}
use Rattle.proof_tokens.specs.Reading.{Cuts}
use Rattle.proof_tokens.proofs.ItemLines.{before}
use Rattle.proof_tokens.proofs.numbers.values.Given as goal

abbrev pub invariant-items : goal.invariant-items
invariant-items l = record {
  all : AreValues l.found;
  cut : Cuts (before value_text l.found) l.text l.rest;
}

abbrev pub decreases-items : goal.decreases-items
decreases-items l = length l.rest
