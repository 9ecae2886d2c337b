use Rattle.std.proofs.Common.{length}
use Rattle.proof_tokens.specs.Reading.{Cuts}
use Rattle.proof_tokens.proofs.EntryLines.{before}
use Rattle.proof_tokens.proofs.lines.entries.Given as goal

abbrev pub invariant-items : goal.invariant-items
invariant-items l = Cuts (before l.found) l.text l.rest

abbrev pub decreases-items : goal.decreases-items
decreases-items l = length l.rest
