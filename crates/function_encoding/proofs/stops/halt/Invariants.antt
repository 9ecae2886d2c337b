use Rattle.std.proofs.Common.{reverse, drop}
use Rattle.function_encoding.specs.Instructions.{actions_of}
use Rattle.function_encoding.proofs.Halting.{Leads}
use Rattle.function_encoding.proofs.stops.halt.Given as goal

abbrev pub invariant-loop-i : goal.invariant-loop-i
invariant-loop-i l = Leads l.at (actions_of l.code) (reverse l.fn.stack) (actions_of (drop l.i l.code)) (reverse l.stack)
