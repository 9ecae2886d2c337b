use Rattle.proof_printer.specs.Typed.{AreTypedLiterals}
use Rattle.proof_printer.proofs.Known.{Before}
use Rattle.proof_printer.proofs.knowing.know_clauses.Given as goal

abbrev pub invariant-loop-clause : goal.invariant-loop-clause
invariant-loop-clause l = Before AreTypedLiterals l.clauses l.clause-index
