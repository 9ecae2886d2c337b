use Rattle.std.proofs.Common.{◌≡◌, ◌≤◌, false, IsSome, vec_len}
use Rattle.job_dialogue.specs.Talks.{IsTalked}
use Rattle.job_dialogue.proofs.conversing.talk_on.Given as goal

abbrev pub invariant-reads : goal.invariant-reads
invariant-reads g l = record {
  talked : IsTalked l.budget l.talk (g.S.Source.left l.fn.source) (g.S.Source.left l.source) (g.K.Sink.taken l.fn.sink) (g.K.Sink.taken l.sink);
  goes_on : l.talk.dialogue.ended ≡ false;
  begun : IsSome (g.S.Source.at l.source);
  unbroken : g.S.Source.broken l.source ≡ false;
  source_later : g.S.Source.faults l.fn.source ≤ g.S.Source.faults l.source;
  later : g.K.Sink.faults l.fn.sink ≤ g.K.Sink.faults l.sink;
  buffer : vec_len l.buffer ≡ 65536;
}
