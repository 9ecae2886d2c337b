use Rattle.std.proofs.Common.{◌≡◌, map, length}
use Rattle.smt_lists.specs.Expressions.{expr}
use Rattle.smt_commands.specs.Faults.{refusal_of, refusal_from}
use Rattle.smt_typing.specs.Steps.{symbols_from, symbols_of}
use Rattle.smt_typing.proofs.commands.walk.Given as goal

abbrev pub invariant-loop-command : goal.invariant-loop-command
invariant-loop-command g l = record {
  refusal : refusal_from (record { faults = g.T.Terms.faults; uses = g.T.Terms.occurs }) l.scopes (map expr l.rest)
      ≡ refusal_of (record { faults = g.T.Terms.faults; uses = g.T.Terms.occurs }) (map expr l.commands);
  symbols : symbols_from l.scopes (map expr l.rest) ≡ symbols_of (map expr l.commands);
}

abbrev pub decreases-loop-command : goal.decreases-loop-command
decreases-loop-command g l = length l.rest
