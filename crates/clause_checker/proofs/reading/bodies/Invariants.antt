use Rattle.std.proofs.Common.{drop}
use Rattle.formula.specs.Tree.{form}
use Rattle.clause_proof.specs.Lines as lines
use Rattle.clause_checker.proofs.Readings.{BodiesLeft}
use Rattle.clause_checker.proofs.reading.bodies.Given as goal

abbrev pub invariant-loop-u : goal.invariant-loop-u
invariant-loop-u l = BodiesLeft (drop l.u-index l.us) (form l.body) l.terms (lines.bodies l.us (form l.initial.body) l.initial.terms)
