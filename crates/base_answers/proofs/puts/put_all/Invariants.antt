-- Before each piece the text is put as far as to the rest, and the sink had no fault.
use Rattle.std.proofs.Common.{◌≡◌, length}
use Rattle.base_answers.specs.Outside.{PutsUpTo}
use Rattle.base_answers.proofs.puts.put_all.Given as goal

abbrev pub invariant-loop-rest : goal.invariant-loop-rest
invariant-loop-rest g l = record {
  put : PutsUpTo (g.K.Sink.taken l.fn.sink) (g.K.Sink.taken l.sink) l.text l.rest;
  no_fault : g.K.Sink.faults l.sink ≡ g.K.Sink.faults l.fn.sink;
}

abbrev pub decreases-loop-rest : goal.decreases-loop-rest
decreases-loop-rest g l = length l.rest
