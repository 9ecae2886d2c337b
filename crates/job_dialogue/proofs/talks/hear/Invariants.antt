use Rattle.std.proofs.Common.{◌≡◌, ◌≤◌, false, length}
use Rattle.job_dialogue.proofs.Hearing.{HeardUpTo}
use Rattle.job_dialogue.proofs.talks.hear.Given as goal

abbrev pub invariant-loop-byte : goal.invariant-loop-byte
invariant-loop-byte g l = record {
  heard : HeardUpTo l.budget l.fn.talk l.talk l.bytes l.rest (g.K.Sink.taken l.fn.sink) (g.K.Sink.taken l.sink);
  goes_on : l.talk.dialogue.ended ≡ false;
  later : g.K.Sink.faults l.fn.sink ≤ g.K.Sink.faults l.sink;
}

abbrev pub decreases-loop-byte : goal.decreases-loop-byte
decreases-loop-byte g l = length l.rest
