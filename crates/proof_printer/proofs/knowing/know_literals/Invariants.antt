use Rattle.proof_printer.specs.Typed.{IsTypedLiteral}
use Rattle.proof_printer.proofs.Known.{Before}
use Rattle.proof_printer.proofs.knowing.know_literals.Given as goal

abbrev pub invariant-loop-literal : goal.invariant-loop-literal
invariant-loop-literal l = Before IsTypedLiteral l.literals l.literal-index
