use Rattle.std.proofs.Common.{drop}
use Rattle.formula.specs.Tree.{form}
use Rattle.clause_proof.specs.Lines as lines
use Rattle.clause_checker.proofs.Readings.{ReadLeft}
use Rattle.clause_checker.proofs.reading.read_all.Given as goal

abbrev pub invariant-loop-b : goal.invariant-loop-b
invariant-loop-b l = ReadLeft l.applications (drop l.b-index l.bs) (form l.rest) l.terms (lines.read_all l.applications l.bs (form l.initial.rest) l.initial.terms)
